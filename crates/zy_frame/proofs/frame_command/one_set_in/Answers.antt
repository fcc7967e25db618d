use Rattle.std.proofs.Common.{◌≡◌, false, List, ℕ, refl, subst}
use Rattle.mc_parse.specs.OneSet.{is_set}
use Rattle.mc_parse.proofs.OneSetLemmas.{other_line, other_large}
use Rattle.zy_frame.specs.declared.form.Form.{Form}
use Rattle.zy_frame.specs.declared.form.Form.TheVariants.{Line, Block, Large, Long}
use Rattle.zy_frame.specs.declared.frame_kind.FrameKind.{FrameKind}
use Rattle.zy_frame.specs.Frame.{command_of, kind_in}
use Rattle.zy_frame.proofs.frame_command.one_set_in.Goals as goal

-- a frame without a block is no `set`
other_form : (form : Form) (line gap : ℕ) (bytes : List ℕ) → (form ≡ Block → ⊥) → is_set (command_of (kind_in form line gap bytes)) ≡ false
other_form Line line gap bytes other = other_line bytes
other_form Block line gap bytes other = absurd (other refl)
other_form Large line gap bytes other = other_large bytes
other_form Long line gap bytes other = refl

pub returns-in_default : goal.returns-in_default
returns-in_default c = record {
  value = tt;
  within = tt;
  other = λ same. subst (λ (kind : FrameKind). is_set (command_of kind) ≡ false) c.frame.view_is
      (other_form c.frame.inside.form c.frame.inside.line c.frame.inside.gap c.frame.inside.bytes c.in_default.not-Block);
}
