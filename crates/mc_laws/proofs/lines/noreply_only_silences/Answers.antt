use Rattle.std.proofs.Common.{ap, ◌∙◌}
use Rattle.mc_parse.specs.Form.{line_form}
use Rattle.mc_parse.specs.Need.{need, need_for}
use Rattle.mc_parse.specs.Meaning.{line_command, block_command, large_command, command_for, block_command_for, large_command_for}
use Rattle.mc_laws.proofs.NoreplyLemmas.{form-noreply, silent-need, silent-line, silent-block, silent-large}
use Rattle.mc_laws.proofs.lines.noreply_only_silences.Goals as goal

pub returns : goal.returns
unfolding need line_command block_command large_command
returns c = record {
  value = λ line loud. record {
    wants = ap need_for (form-noreply line loud) ∙ silent-need (line_form line);
    alone = λ alone. ap command_for (form-noreply line loud) ∙ silent-line (line_form line) loud alone;
    with_its_block = λ block fits. ap (block_command_for block) (form-noreply line loud) ∙ silent-block (line_form line) block fits;
    too_large = λ large. ap large_command_for (form-noreply line loud) ∙ silent-large (line_form line) large;
  };
}
