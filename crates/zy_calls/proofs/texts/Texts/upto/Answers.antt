use Rattle.std.proofs.Common.{◌≡◌, ℕ, ◌-◌, ◌<◌, suc, List, length, take, ap, sym, ◌∙◌, arith}
use Rattle.std.specs.List.{concat}
use Rattle.std.proofs.lemmas.List.{length-take-le}
use Rattle.zy_calls.proofs.TextLemmas.{length-texts_from, concat-take, Rise-at}
use Rattle.zy_calls.proofs.texts.Texts.upto.Goals as goal

pub index-requires : goal.index-requires
index-requires c =
    omega (arith, c.requires.within, c.if-count-eq0.false, length-texts_from c.self.inside.bytes 0 c.self.inside.ends.items, ap length c.self.view_is)

pub slice_bounds-result-end-2 : goal.slice_bounds-result-end-2
slice_bounds-result-end-2 c =
    let within : c.args.count - 1 < length c.self.inside.ends.items =
    omega (arith, c.requires.within, c.if-count-eq0.false, length-texts_from c.self.inside.bytes 0 c.self.inside.ends.items, ap length c.self.view_is) in
    let between = Rise-at 0 c.self.inside.ends.items (length c.self.inside.bytes) (c.args.count - 1) c.index.result.now c.self.invariant within in
    sym (length-take-le c.index.result.now c.bytes.result.now (omega (arith, between.1, c.index.ensures, ap length c.bytes.ensures.value)))

pub returns : goal.returns
returns c =
    let within : c.args.count - 1 < length c.self.inside.ends.items =
    omega (arith, c.requires.within, c.if-count-eq0.false, length-texts_from c.self.inside.bytes 0 c.self.inside.ends.items, ap length c.self.view_is) in
    let count : suc (c.args.count - 1) ≡ c.args.count = omega (arith, c.if-count-eq0.false) in
    record {
      value = ap (λ (bytes : List ℕ). take c.index.result.now bytes) c.bytes.ensures.value
          ∙ ap (λ n. take n c.self.inside.bytes) (omega (arith, c.index.ensures))
          ∙ sym (concat-take c.self.inside.bytes 0 c.self.inside.ends.items (c.args.count - 1) c.index.result.now c.self.invariant within)
          ∙ ap (λ (texts : List (List ℕ)). concat (take (suc (c.args.count - 1)) texts)) c.self.view_is
          ∙ ap (λ n. concat (take n c.args.self.now)) count;
    }
