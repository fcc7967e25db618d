use Rattle.std.proofs.Common.{length, Some, refl, sym, ap, ◌∙◌, subst, arith}
use Rattle.std.proofs.lemmas.Option.{slice_get_read}
use Rattle.mc_allows.specs.Needs.{Suits}
use Rattle.mc_allows.specs.declared.shown.Shown.{Shown}
use Rattle.mc_shown.specs.declared.part.Part.{Part}
use Rattle.zy_outputs.proofs.ShowingLemmas.{suits_nothing, suited_without, part_suits}
use Rattle.zy_outputs.proofs.showing.take_part.Goals as goal

pub returns-then-at-len-clause-kept : goal.returns-then-at-len-clause-kept
returns-then-at-len-clause-kept c saids suited =
    suited_without c.args.parts.now.items c.args.at c.replace.new.dest saids (ap (λ (p : Part). p.shown) c.replace.ensures.after ∙ c.nothing.ensures.value) suited

pub returns-then-at-len-clause-suits : goal.returns-then-at-len-clause-suits
returns-then-at-len-clause-suits c =
    let near = c.if-at-len.true in
    part_suits c.args.parts.now.items c.args.at c.args.quiet c.args.forget c.args.call.now c.replace.result
    (slice_get_read c.args.parts.now.items (length c.args.parts.now.items) c.args.at c.index_mut.result.now refl (omega arith) c.index_mut.ensures.value ∙ ap Some (sym c.replace.ensures.value))

pub returns-clause-suits : goal.returns-clause-suits
returns-clause-suits c saids said suited there fails = subst (λ (s : Shown). Suits s said) (sym c.nothing-2.ensures.value) (suits_nothing said)
