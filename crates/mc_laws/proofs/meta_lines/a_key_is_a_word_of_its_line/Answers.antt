use Rattle.mc_meta.proofs.KeyLemmas.{line_key}
use Rattle.mc_laws.proofs.meta_lines.a_key_is_a_word_of_its_line.Goals as goal

pub returns : goal.returns
returns c = record { value = line_key }
