use Rattle.mc_meta.proofs.PlaceLemmas.{words_at-texts, words_at-places}
use Rattle.mc_laws.proofs.meta_lines.words_are_at_their_places.Goals as goal

pub returns : goal.returns
returns c = record { texts = words_at-texts 0; places = words_at-places }
