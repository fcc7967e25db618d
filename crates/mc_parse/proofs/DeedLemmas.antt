-- What the calls of commands are: their keys, that they are steady, and their bounds.
use Rattle.std.proofs.Common.{◌≡◌, ℕ, Bool, true, false, List, refl}
use Rattle.std.specs.Prelude.{None, Some}
use Rattle.mc_calls.specs.Call.{key_of}
use Rattle.mc_calls.specs.Told.{IsSteady}
use Rattle.mc_calls.specs.Bounds.{IsKey, IsValue, IsCall}
use Rattle.mc_parse.specs.declared.verb.Verb.{Verb}
use Rattle.mc_parse.specs.declared.verb.Verb.TheVariants.{Set, Add, Replace, Append, Prepend}
use Rattle.mc_parse.specs.declared.on_all.OnAll.{OnAll}
use Rattle.mc_parse.specs.declared.on_all.OnAll.TheVariants.{Flush, Tally}
use Rattle.mc_parse.specs.OnAll.{made_by}
use Rattle.mc_parse.specs.Deed.{stored_by, counted_by}

-- ---- keys

pub stored_key : (verb : Verb) (key : List ℕ) (flags : ℕ) (value : List ℕ) → key_of (stored_by verb key flags value) ≡ Some key
stored_key Set key flags value = refl
stored_key Add key flags value = refl
stored_key Replace key flags value = refl
stored_key Append key flags value = refl
stored_key Prepend key flags value = refl

pub counted_key : (up : Bool) (key : List ℕ) (amount : ℕ) → key_of (counted_by up key amount) ≡ Some key
counted_key true key amount = refl
counted_key false key amount = refl

pub no_key : (made : OnAll) → key_of (made_by made) ≡ None
no_key Flush = refl
no_key Tally = refl

-- ---- steady calls

pub stored_steady : (verb : Verb) (key : List ℕ) (flags : ℕ) (value : List ℕ) → IsSteady (stored_by verb key flags value)
stored_steady Set key flags value = tt
stored_steady Add key flags value = tt
stored_steady Replace key flags value = tt
stored_steady Append key flags value = tt
stored_steady Prepend key flags value = tt

pub counted_steady : (up : Bool) (key : List ℕ) (amount : ℕ) → IsSteady (counted_by up key amount)
counted_steady true key amount = tt
counted_steady false key amount = tt

-- ---- bounds

pub stored_bound : (verb : Verb) (key : List ℕ) (flags : ℕ) (value : List ℕ) → IsKey key → IsValue value → IsCall (stored_by verb key flags value)
stored_bound Set key flags value is small = (is, small)
stored_bound Add key flags value is small = (is, small)
stored_bound Replace key flags value is small = (is, small)
stored_bound Append key flags value is small = (is, small)
stored_bound Prepend key flags value is small = (is, small)

pub on_all_bound : (made : OnAll) → IsCall (made_by made)
on_all_bound Flush = tt
on_all_bound Tally = tt
