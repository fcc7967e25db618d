use Rattle.std.proofs.Common.{ap}
use Rattle.mc_parse.specs.Form.{form_in}
use Rattle.mc_parse.proofs.MetaLemmas.{plain_form, read_form}
use Rattle.mc_laws.proofs.lines.a_name_decides_how_a_line_is_read.Goals as goal

pub returns : goal.returns
returns c = record { empty = λ line none. ap (form_in line) none; meta = read_form; other = plain_form }
