use Rattle.std.proofs.Common.{◌≡◌, ◌-◌, ◌^◌, ℕ, length, drop, arith, sym, ap, ◌∙◌}
use Rattle.std.proofs.lemmas.Bool.{eqb-true, eqb-false}
use Rattle.std.proofs.lemmas.List.{take_rest}
use Rattle.zy_pcap.proofs.MeetLemmas.{meets_near, meets_before, meets_nothing, meets_empty, meets_far}
use Rattle.zy_pcap.proofs.kept_session.KeptSession.meet.Goals as goal

pub returns-then-is_empty : goal.returns-then-is_empty
returns-then-is_empty c =
    record { value = meets_empty c.args.self.now c.args.segment.now c.args.payload.now c.args.at (eqb-true (length c.args.payload.now) 0 (sym c.is_empty.ensures ∙ c.if-is_empty.true)) }

pub returns-then-offset-payload : goal.returns-then-offset-payload
returns-then-offset-payload c =
    let some : length c.args.payload.now ≡ 0 → ⊥ = eqb-false (length c.args.payload.now) 0 (sym c.is_empty.ensures ∙ c.if-is_empty.false) in
    record { value = meets_far c.args.self.now c.args.segment.now c.args.payload.now c.args.at c.offset-offset.result c.offset-offset.ensures.value (omega arith) (omega (arith, some)) (omega arith) }

pub returns-then-offset : goal.returns-then-offset
returns-then-offset c = record { value = meets_near c.args.self.now c.add.new.self c.args.segment.now c.args.payload.now c.args.at c.offset-offset.result c.add.result c.offset-offset.ensures.value (omega arith) c.add.ensures.value }

pub returns-then-before-payload : goal.returns-then-before-payload
returns-then-before-payload c =
    let before : c.wrapping_neg-before.result ≡ 2 ^ 32 - c.offset-offset.result = omega arith in
    record { value = meets_nothing c.args.self.now c.args.segment.now c.args.payload.now c.args.at c.offset-offset.result c.offset-offset.ensures.value (omega arith) c.requires.few (omega (arith, before)) }

pub returns : goal.returns
returns c =
    let before : c.wrapping_neg-before.result ≡ 2 ^ 32 - c.offset-offset.result = omega arith in
    record {
      value = meets_before c.args.self.now c.add-2.new.self c.args.segment.now c.args.payload.now _ c.args.at c.offset-offset.result c.add-2.result c.offset-offset.ensures.value (omega arith) c.requires.few
          (take_rest c.args.payload.now c.wrapping_neg-before.result ∙ ap (λ (n : ℕ). drop n c.args.payload.now) before) c.add-2.ensures.value;
    }
