-- What a meta line asks for (docs/PROFILE.md, "Meta commands").
use Rattle.std.specs.Prelude.{ℕ, ◌==◌, if◌then◌else◌, List, Option, None, Some}
use Rattle.mc_parse.specs.declared.verb.Verb.{Verb}
use Rattle.mc_parse.specs.declared.verb.Verb.TheVariants.{Set, Add, Replace, Append, Prepend}
use Rattle.mc_parse.specs.declared.meta_ask.MetaAsk.{MetaAsk as SeenMetaAsk}
use Rattle.mc_parse.specs.declared.meta_ask.MetaAsk.TheVariants as Asked

-- what a meta line asks for
pub data MetaAsk : Type 0 where
  -- nothing but an answer
  noops : MetaAsk
  -- get the item of a key: the key and the flags
  meta_gets : List ℕ → List ℕ → MetaAsk
  -- store a block: the verb, the key, the flags of the item, the bytes of the value, and the marks
  meta_stores : Verb → List ℕ → ℕ → ℕ → List ℕ → MetaAsk
  -- store a block in place of an item: the key, the flags of the item, the bytes, the item's unique,
  -- and the marks
  meta_exchanges : List ℕ → ℕ → ℕ → ℕ → List ℕ → MetaAsk
  -- remove the item of a key: the key and the flags
  meta_deletes : List ℕ → List ℕ → MetaAsk

-- a meta request, with the key of the line as a text
abbrev pub meta_ask_seen : SeenMetaAsk → MetaAsk
meta_ask_seen Asked.Noop = noops
meta_ask_seen (Asked.Get key flags) = meta_gets key.now flags
meta_ask_seen (Asked.Store verb key flags bytes marks) = meta_stores verb key.now flags bytes marks
meta_ask_seen (Asked.Cas key flags bytes unique marks) = meta_exchanges key.now flags bytes unique marks
meta_ask_seen (Asked.Delete key flags) = meta_deletes key.now flags

-- the verb of a mode: `E` adds, `A` appends, `P` prepends, `R` replaces and `S` sets
abbrev pub verb_of : ℕ → Verb
verb_of mode =
    if mode == 69 then Add else
    if mode == 65 then Append else
    if mode == 80 then Prepend else
    if mode == 82 then Replace else
    Set

-- what a storage line asks for: with a unique the same as `cas`, otherwise what its mode says
abbrev pub storing_ask : List ℕ → ℕ → ℕ → Option ℕ → ℕ → List ℕ → MetaAsk
storing_ask key bytes flags (Some unique) mode marks = meta_exchanges key flags bytes unique marks
storing_ask key bytes flags None mode marks = meta_stores (verb_of mode) key flags bytes marks
