use Rattle.std.proofs.Common.{refl}
use Rattle.mc_answers.specs.Kinds.{IsItemText}
use Rattle.mc_kind.proofs.ListingLemmas.{listing_whole, listing_refused}
use Rattle.mc_kind.proofs.SeriesLemmas.{one_more}
use Rattle.mc_kind.proofs.listing.first_listing.Goals as goal

pub returns-in-End : goal.returns-in-End
returns-in-End c = record {
  value = listing_whole c.args.keys.now c.args.asked c.args.bytes.now c.text_from.result.now c.loop.at c.in-End.length (c.if-not-are_words.ensures.value refl) c.loop.invariant c.text_from.ensures.value
      c.in-End.ensures.value.0 c.in-End.ensures.value.1;
}

pub returns-in-Refused : goal.returns-in-Refused
returns-in-Refused c = record {
  value = listing_refused c.args.keys.now c.args.asked c.args.bytes.now c.text_from.result.now c.loop.at (c.if-not-are_words.ensures.value refl) c.loop.invariant c.text_from.ensures.value c.in-Refused.ensures.value.0
      c.in-Refused.ensures.value.1;
}

pub loop-preserved : goal.loop-preserved
loop-preserved c =
    one_more (IsItemText c.args.asked c.args.keys.now) c.args.bytes.now c.text_from.result.now c.loop.at c.in-Item.length c.loop.invariant c.text_from.ensures.value c.in-Item.ensures.value.0 c.in-Item.ensures.value.1
