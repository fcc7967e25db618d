use Rattle.std.proofs.Common.{ap, sym, ◌∙◌, refl, subst, List, ℕ}
use Rattle.std.specs.Prelude.{Some}
use Rattle.std.proofs.lemmas.Option.{slice_get-get_or}
use Rattle.mc_allows.specs.declared.shown.Shown.{Shown}
use Rattle.mc_allows.specs.Needs.{Suits}
use Rattle.mc_shown.specs.Listing.{SuitsAt}
use Rattle.mc_shown.proofs.GotLemmas.{hit_suits, miss_suits}
use Rattle.std.proofs.lemmas.Result.{IfOk-weaker}
use Rattle.mc_shown.proofs.listing.key_part.Goals as goal

pub returns-then-is_once : goal.returns-then-is_once
returns-then-is_once c =
    let keys = c.args.keys.now in
    let items = c.args.items.now in
    let there = slice_get-get_or keys c.args.i c.index-keys-i.result c.requires.low ∙ ap (λ (k : List ℕ). Some k) (sym c.index-keys-i.is ∙ sym c.bytes.ensures.value) in
    let suits = hit_suits c.args.asked keys items c.args.i c.bytes.result.now c.in-Some.item c.in-Some.item.value.now c.requires.words c.requires.each there (c.if-is_once.ensures.value refl) c.in-Some.ensures.some
    c.in-Some.ensures.key refl in
    record {
      value = IfOk-weaker c.hit.result _ (λ part. SuitsAt c.args.asked keys items c.args.i part.shown)
          (λ part is. subst (SuitsAt c.args.asked keys items c.args.i) (sym is) suits) c.hit.ensures.value;
    }

pub returns-in-None : goal.returns-in-None
returns-in-None c =
    let keys = c.args.keys.now in
    let there = slice_get-get_or keys c.args.i c.index-keys-i.result c.requires.low ∙ ap (λ (k : List ℕ). Some k) (sym c.index-keys-i.is ∙ sym c.bytes.ensures.value) in
    record {
      value = λ saids said got order is.
          subst (λ (x : Shown). Suits x said) (sym c.new-in-None.ensures.value)
          (miss_suits c.args.asked keys c.args.items.now c.args.i c.bytes.result.now c.requires.words c.requires.each there c.in-None.ensures.none saids said got order is);
    }
