use Rattle.std.proofs.Common.{◌≡◌, ℕ, ◌+◌, ◌≤◌, List, [], length, take, drop, subst, arith}
use Rattle.std.proofs.lemmas.List.{length-drop, take_rest}
use Rattle.zy_journal_reader.specs.Steps.{ReadState}
use Rattle.zy_journal_reader.proofs.PlaceLemmas.{Over}
use Rattle.zy_journal_reader.proofs.RecordLemmas.{records_on}
use Rattle.zy_journal_reader.proofs.state.JournalState.take_records.Goals as goal

pub loop-alloc-preserved : goal.loop-alloc-preserved
loop-alloc-preserved c =
    let run : ℕ = c.loop-alloc.run in
    let bytes : List ℕ = c.args.bytes.now in
    let p : ReadState = c.loop-alloc.self in
    let q : ReadState = c.take_record-size.new.self in
    let size : ℕ = c.take_record-size.result in
    let within : size ≤ length (drop run bytes) = subst (λ (l : List ℕ). size ≤ length l) (take_rest bytes run) c.take_record-size.ensures.within in
    let more : (at : ℕ) → Over p at (take size (drop run bytes)) q [] = subst (λ (l : List ℕ). (at : ℕ) → Over p at (take size l) q []) (take_rest bytes run) c.take_record-size.ensures.runs in
    record {
      within = omega (arith, within, length-drop run bytes, c.loop-alloc.invariant.within);
      there = c.take_record-size.ensures.there;
      runs = records_on c.args.self.now p q bytes run size c.loop-alloc.invariant.runs more;
    }

pub returns-then-size-eq0-clause-runs : goal.returns-then-size-eq0-clause-runs
returns-then-size-eq0-clause-runs c =
    let run : ℕ = c.loop-alloc.run in
    let bytes : List ℕ = c.args.bytes.now in
    let p : ReadState = c.loop-alloc.self in
    let q : ReadState = c.take_record-size.new.self in
    let size : ℕ = c.take_record-size.result in
    let more : (at : ℕ) → Over p at (take size (drop run bytes)) q [] = subst (λ (l : List ℕ). (at : ℕ) → Over p at (take size l) q []) (take_rest bytes run) c.take_record-size.ensures.runs in
    let none : run + size ≡ run = (let empty = c.if-size-eq0.true in omega (arith, empty)) in
    subst (λ (n : ℕ). (at : ℕ) → Over c.args.self.now at (take n bytes) q []) none (records_on c.args.self.now p q bytes run size c.loop-alloc.invariant.runs more)
