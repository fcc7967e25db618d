-- Meta commands whose answers no flag hides. No public clause cites this module.
use Rattle.std.specs.Prelude.{◌≡◌, true, false}
use Rattle.mc_calls.specs.Code.{call_kind}
use Rattle.mc_parse.specs.declared.meta.Meta.{Meta}
use Rattle.mc_parse.specs.declared.meta.Meta.TheVariants as Metas
use Rattle.mc_reply.specs.MetaText.{has_quiet_letter}
use Rattle.mc_answers.specs.Answer.{stores}

-- the meta command is about a key, no flag hides its answer, and the call of `ms` stores
abbrev pub IsLoud : Meta → Type 0
IsLoud Metas.Noop = ⊥
IsLoud (Metas.Get key flags) = has_quiet_letter flags ≡ false
IsLoud (Metas.Set key call marks) = (has_quiet_letter marks ≡ false) × (stores (call_kind call) ≡ true)
IsLoud (Metas.Delete key flags) = has_quiet_letter flags ≡ false
