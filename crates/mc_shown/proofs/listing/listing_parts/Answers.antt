use Rattle.std.proofs.Common.{refl, sym, subst, List}
use Rattle.std.proofs.lemmas.Result.{IfOk-weaker}
use Rattle.mc_kind.proofs.ListingLemmas.{words_of}
use Rattle.mc_shown.specs.declared.listed.Listed.{Listed}
use Rattle.mc_shown.specs.Listing.{AreListed}
use Rattle.mc_shown.proofs.GotLemmas.{suited}
use Rattle.mc_shown.proofs.listing.listing_parts.Goals as goal

pub returns-in-Some : goal.returns-in-Some
returns-in-Some c =
    let keys = c.args.keys.now in
    let listed = rw c.in-Some.is at c.in_ok-items.ensures.value in
    let items = c.as_slice.result.now in
    let same : AreListed c.args.asked items c.args.text.now = subst (λ (is : List Listed). AreListed c.args.asked is c.args.text.now) (sym c.as_slice.ensures.value) listed in
    record {
      suits = IfOk-weaker c.parts_of-parts.result _ _
          (λ parts each saids answer. suited c.args.asked keys items c.args.text.now parts.items (words_of keys (c.if-not-are_words.ensures.value refl)) same each saids answer) c.parts_of-parts.ensures.value;
    }
