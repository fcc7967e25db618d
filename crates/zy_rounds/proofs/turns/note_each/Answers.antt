use Rattle.std.proofs.Common.{◌≡◌, ◌+◌, take, set, ap, sym, ◌∙◌, arith, rules}
use Rattle.std.specs.Prelude.{◌||◌}
use Rattle.std.proofs.lemmas.List.{take_all}
use Rattle.zy_table.proofs.SliceLemmas.{get_at, set_there}
use Rattle.zy_rounds.specs.Counting.{IsNoted, NotesTo, is_due, some_due}
use Rattle.zy_rounds.proofs.CoreLemmas.{fits_there, same_there, turns_there, have_more, have_all, same_more, related_more, related_all, noted_by, notes_by, note_turns, due_more}
use Rattle.zy_rounds.proofs.turns.note_each.Goals.{then-counted, else-counted}
use Rattle.zy_rounds.proofs.turns.note_each.Goals as goal

pub note-now-requires : goal.note-now-requires
note-now-requires c =
    let near = c.loop-i-test.true in let len = c.loop-i.invariant.len in let whole = c.len-i-end.ensures in
    record { fits = fits_there c.args.shared.now c.args.cores.now.items c.loop-i.cores.items c.loop-i.i c.index_mut-core.result.now (omega arith) c.index_mut-core.ensures.value c.loop-i.invariant.same c.requires.fits }

pub loop-i-preserved : goal.loop-i-preserved
loop-i-preserved c =
    let near = c.loop-i-test.true in let len = c.loop-i.invariant.len in let whole = c.len-i-end.ensures in
    let there = get_at c.loop-i.cores.items c.loop-i.i c.index_mut-core.result.now c.index_mut-core.result.now (omega arith) c.index_mut-core.ensures.value in
    let to = notes_by c.index_mut-core.result.now c.note-now.new.self c.note-now.result c.note-now.ensures.value c.note-now.ensures.counted c.note-now.ensures.kept in
    record {
      same = same_there c.args.cores.now.items c.loop-i.cores.items c.loop-i.i c.index_mut-core.result.now c.note-now.new.self (omega arith) c.index_mut-core.ensures.value c.note-now.ensures.same c.loop-i.invariant.same;
      len = search rules;
      value =
          let next : some_due (take (c.loop-i.i + 1) c.args.cores.now.items) ≡ (c.loop-i.counted || c.note-now.result) = due_more c.args.cores.now.items c.loop-i.i c.index_mut-core.result.now (sym (c.loop-i.invariant.rest c.loop-i.i (omega arith)) ∙ there)
          ∙ ap (λ b. b || is_due c.index_mut-core.result.now) (sym c.loop-i.invariant.value) ∙ ap (λ b. c.loop-i.counted || b) (sym c.note-now.ensures.value) in
          elim c.if-counted.branch [
            | then-counted w ↦ w.counted-is ∙ w.if-counted.true ∙ ap (λ b. b || c.note-now.result) (sym w.if-counted.true) ∙ sym next
            | else-counted w ↦ w.counted-is ∙ ap (λ b. b || c.note-now.result) (sym w.if-counted.false) ∙ sym next
          ];
      notes = related_more NotesTo c.loop-i.i c.args.cores.now.items c.loop-i.cores.items c.index_mut-core.result.now c.note-now.new.self there c.loop-i.invariant.rest to c.loop-i.invariant.notes;
      rest = same_more c.loop-i.i c.args.cores.now.items c.loop-i.cores.items c.note-now.new.self c.loop-i.invariant.rest;
      turns = turns_there c.args.cores.now.items c.loop-i.cores.items c.loop-i.i c.index_mut-core.result.now c.note-now.new.self (omega arith) c.index_mut-core.ensures.value (note_turns c.index_mut-core.result.now c.note-now.new.self to) c.loop-i.invariant.turns;
      noted = have_more IsNoted c.loop-i.i c.loop-i.cores.items c.note-now.new.self (noted_by c.index_mut-core.result.now c.note-now.new.self c.note-now.result c.note-now.ensures.value c.note-now.ensures.counted c.note-now.ensures.kept) c.loop-i.invariant.noted;
      kept = λ e. elim c.if-counted.branch [
        | then-counted w ↦ absurd (cc)
        | else-counted w ↦
            let same = c.note-now.ensures.kept (sym w.counted-is ∙ e) in
            ap (set c.loop-i.cores.items c.loop-i.i) same ∙ set_there c.loop-i.cores.items c.loop-i.i c.index_mut-core.result.now there
            ∙ c.loop-i.invariant.kept w.if-counted.false
      ];
    }

pub returns-clause-noted : goal.returns-clause-noted
returns-clause-noted c =
    let end = c.loop-i-test.false in let len = c.loop-i.invariant.len in let whole = c.len-i-end.ensures in
    have_all IsNoted c.loop-i.i c.loop-i.cores.items (omega arith) c.loop-i.invariant.noted

pub returns-clause-notes : goal.returns-clause-notes
returns-clause-notes c =
    let end = c.loop-i-test.false in let len = c.loop-i.invariant.len in let whole = c.len-i-end.ensures in
    related_all NotesTo c.loop-i.i c.args.cores.now.items c.loop-i.cores.items (omega arith) c.loop-i.invariant.notes

pub returns-clause-value : goal.returns-clause-value
returns-clause-value c =
    let end = c.loop-i-test.false in let len = c.loop-i.invariant.len in let whole = c.len-i-end.ensures in
    c.loop-i.invariant.value ∙ ap some_due (take_all c.loop-i.i c.args.cores.now.items (omega arith))
