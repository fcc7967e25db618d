use Rattle.zy_items.proofs.StandingLemmas.{good_stands}
use Rattle.zy_items.proofs.laws.a_good_items_file_says_what_a_server_can_have.Goals as goal

pub returns : goal.returns
returns c = record { standing = good_stands }
