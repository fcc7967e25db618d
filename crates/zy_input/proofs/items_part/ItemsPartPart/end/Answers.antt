use Rattle.std.proofs.Common.{refl}
use Rattle.zy_items.specs.Verdict.{items_files, is_good_items}
use Rattle.zy_input.proofs.FormatLemmas.{bad_not_whole, none_yet}
use Rattle.zy_input.proofs.ItemsLemmas.{once}
use Rattle.zy_input.proofs.items_part.ItemsPartPart.end.Goals as goal

pub returns-in-Err-clause-whole : goal.returns-in-Err-clause-whole
returns-in-Err-clause-whole c setting bytes stands whole = absurd (bad_not_whole items_files is_good_items once bytes c.in-Err.fault (c.in-Err.ensures.value stands.given bytes stands.reader) whole)

pub returns-in-Err-clause-cut : goal.returns-in-Err-clause-cut
returns-in-Err-clause-cut c setting bytes stands goes_on = (c.in-Err.fault, refl, none_yet items_files is_good_items once bytes goes_on, c.in-Err.ensures.value stands.given bytes stands.reader)
