-- The lines that answer meta commands. No public clause cites this module.
use Rattle.std.specs.Prelude.{◌≡◌, ◌⊎◌, ℕ, ◌+◌, Bool, false, List, Some, codes, ⊤}
use Rattle.mc_meta.specs.Flags.{is_among}
use Rattle.mc_parse.specs.declared.meta.Meta.{Meta}
use Rattle.mc_parse.specs.declared.meta.Meta.TheVariants as Metas
use Rattle.mc_reply.specs.MetaText.{value_letter}
use Rattle.mc_answers.specs.Kinds.{IsLineWith}
use Rattle.mc_answered.specs.Size.{size_of}

-- the answer to a command may show a value
abbrev pub shows_value : Meta → Bool
shows_value (Metas.Get key flags) = is_among flags value_letter
shows_value meta = false

-- the command stores
abbrev pub IsSet : Meta → Type 0
IsSet (Metas.Set key call marks) = ⊤
IsSet meta = ⊥

-- the line begins with a code that answers a command which shows no value
abbrev pub IsCoded : Meta → List ℕ → Type 0
IsCoded Metas.Noop line = IsLineWith (codes "MN") line
IsCoded (Metas.Get key flags) line = IsLineWith (codes "HD") line ⊎ IsLineWith (codes "EN") line
IsCoded (Metas.Set key call marks) line =
    IsLineWith (codes "HD") line ⊎ IsLineWith (codes "NS") line
    ⊎ IsLineWith (codes "EX") line ⊎ IsLineWith (codes "NF") line
IsCoded (Metas.Delete key flags) line = IsLineWith (codes "HD") line ⊎ IsLineWith (codes "NF") line

-- the line announces a value that has this size with the end of its line
pub record HasSize (line : List ℕ) (more : ℕ) : Type 0 where
  pub size : ℕ
  pub read : size_of line ≡ Some size
  pub is : more ≡ size + 2
