-- What the words after a name ask for.
use Rattle.std.proofs.Common.{◌≡◌, ℕ, ◌≤◌, Bool, true, false, if◌then◌else◌, List, [], ◌∷◌, length, refl, arith}
use Rattle.std.proofs.lemmas.Bool.{true≢false}
use Rattle.std.specs.Prelude.{Option, None, Some, IfSome, option_map, ⊤}
use Rattle.zy_base.specs.Number.{number_of}
use Rattle.mc_parse.specs.declared.name.Name.{Name}
use Rattle.mc_parse.specs.declared.name.Name.TheVariants.{Store, Cas, Get, Delete, Count, Verbosity, Flush, Quit}
use Rattle.mc_parse.specs.declared.need.Need.TheVariants.{Nothing}
use Rattle.mc_parse.specs.declared.sizes.Sizes.{Sizes}
use Rattle.mc_parse.specs.declared.verb.Verb.{Verb}
use Rattle.mc_parse.specs.Number.{small_number_of, is_zero}
use Rattle.mc_parse.specs.Name.{KeysAmong, no_word, one_word, each_word, which_keys}
use Rattle.mc_parse.specs.MetaAsk.{MetaAsk, meta_gets, meta_stores, meta_exchanges, meta_deletes}
use Rattle.mc_parse.specs.Form.{Ask, exchanges, gets, deletes, sets_verbosity, flushes, metas, first_word, key_words, keys_among, ask_keys, key_zero, key_number, count_by, sizes_of, store_ask, store_words, cas_ask, cas_words, verbosity_words, with_zero, ask_of}
use Rattle.mc_parse.specs.Need.{ask_need, takes_more}
use Rattle.mc_parse.specs.Line.{IsLimited}

-- ---- what is asked for

-- the number of letters of what a meta line asks for
abbrev pub meta_width : MetaAsk → ℕ
meta_width (meta_gets key flags) = length flags
meta_width (meta_stores verb key flags bytes marks) = length marks
meta_width (meta_exchanges key flags bytes unique marks) = length marks
meta_width (meta_deletes key flags) = length flags
meta_width ask = 0

-- the number of keys of a retrieval, and of letters of a meta command
abbrev pub ask_width : Ask → ℕ
ask_width (gets keys unique) = length keys
ask_width (metas ask) = meta_width ask
ask_width ask = 0

-- it asks for no items
abbrev pub GetsNone : Ask → Type 0
GetsNone (gets keys unique) = ⊥
GetsNone ask = ⊤

-- ---- the words after a name

-- what a name asks for with some words: its keys are those among them, it has no letters, it needs something only
-- if the name may, and it gets items only if the name does
pub record Reads (name : Name) (ws : List (List ℕ)) (ask : Ask) : Type 0 where
  pub keys : ask_keys ask ≡ keys_among name ws
  pub width : ask_width ask ≤ length (ask_keys ask)
  pub needs : takes_more name ≡ false → ask_need ask ≡ Nothing
  pub none : IsLimited name → GetsNone ask

mapped : {X : Type 0} (P : Ask → Type 0) (f : X → Ask) (o : Option X) → ((x : X) → P (f x)) → IfSome (option_map f o) P
mapped P f None each = tt
mapped P f (Some x) each = each x

zeroed : (P : Ask → Type 0) (ask : Ask) (ws : List (List ℕ)) → P ask → IfSome (with_zero ask ws) P
zeroed P ask [] is = is
zeroed P ask (word ∷ []) is = go (is_zero word)
  where
    go : (b : Bool) → IfSome (if b then Some ask else None) P
    go true = is
    go false = tt
zeroed P ask (word ∷ next ∷ ws) is = tt

exchanged : (P : Ask → Type 0) (key : List ℕ) (sizes : Option Sizes) (unique : Option ℕ) → ((flags bytes number : ℕ) → P (exchanges key flags bytes number)) → IfSome (cas_ask key sizes unique) P
exchanged P key None unique each = tt
exchanged P key (Some sizes) None each = tt
exchanged P key (Some sizes) (Some unique) each = each sizes.flags sizes.bytes unique

store_reads : (verb : Verb) (ws : List (List ℕ)) → IfSome (store_words verb ws) (Reads (Store verb) ws)
store_reads verb [] = tt
store_reads verb (key ∷ []) = tt
store_reads verb (key ∷ flags ∷ []) = tt
store_reads verb (key ∷ flags ∷ exptime ∷ []) = tt
store_reads verb (key ∷ flags ∷ exptime ∷ bytes ∷ []) =
    mapped (Reads (Store verb) (key ∷ flags ∷ exptime ∷ bytes ∷ [])) (store_ask verb key) (sizes_of flags exptime bytes)
    (λ sizes. record { keys = refl; width = omega arith; needs = λ more. absurd (true≢false more); none = λ limited. tt })
store_reads verb (key ∷ flags ∷ exptime ∷ bytes ∷ next ∷ ws) = tt

cas_reads : (ws : List (List ℕ)) → IfSome (cas_words ws) (Reads Cas ws)
cas_reads [] = tt
cas_reads (key ∷ []) = tt
cas_reads (key ∷ flags ∷ []) = tt
cas_reads (key ∷ flags ∷ exptime ∷ []) = tt
cas_reads (key ∷ flags ∷ exptime ∷ bytes ∷ []) = tt
cas_reads (key ∷ flags ∷ exptime ∷ bytes ∷ unique ∷ []) =
    exchanged (Reads Cas (key ∷ flags ∷ exptime ∷ bytes ∷ unique ∷ [])) key (sizes_of flags exptime bytes) (number_of unique)
    (λ flags bytes number. record { keys = refl; width = omega arith; needs = λ more. absurd (true≢false more); none = λ limited. tt })
cas_reads (key ∷ flags ∷ exptime ∷ bytes ∷ unique ∷ next ∷ ws) = tt

-- a key, and a zero that may follow it
zero_reads : (name : Name) (ask : List ℕ → Ask) (ws : List (List ℕ)) → ((key : List ℕ) (rest : List (List ℕ)) → Reads name (key ∷ rest) (ask key)) → IfSome (key_zero ask ws) (Reads name ws)
zero_reads name ask [] each = tt
zero_reads name ask (key ∷ ws) each = zeroed (Reads name (key ∷ ws)) (ask key) ws (each key ws)

-- a key and a number
number_reads : (name : Name) (ask : List ℕ → ℕ → Ask) (ws : List (List ℕ)) → ((key word : List ℕ) (number : ℕ) → Reads name (key ∷ word ∷ []) (ask key number)) → IfSome (key_number ask ws) (Reads name ws)
number_reads name ask [] each = tt
number_reads name ask (key ∷ []) each = tt
number_reads name ask (key ∷ word ∷ []) each = mapped (Reads name (key ∷ word ∷ [])) (ask key) (number_of word) (each key word)
number_reads name ask (key ∷ word ∷ next ∷ ws) each = tt

verbosity_reads : (ws : List (List ℕ)) → IfSome (verbosity_words ws) (Reads Verbosity ws)
verbosity_reads [] = tt
verbosity_reads (number ∷ []) =
    mapped (Reads Verbosity (number ∷ [])) (λ _. sets_verbosity) (small_number_of number) (λ level. record { keys = refl; width = omega arith; needs = λ more. refl; none = λ limited. tt })
verbosity_reads (number ∷ next ∷ ws) = tt

pub reads : (name : Name) (ws : List (List ℕ)) → IfSome (ask_of name ws) (Reads name ws)
reads (Store verb) ws = store_reads verb ws
reads Cas ws = cas_reads ws
reads (Get unique) ws = record { keys = refl; width = omega arith; needs = λ more. refl; none = λ limited. absurd limited }
reads Delete ws = zero_reads Delete deletes ws (λ key rest. record { keys = refl; width = omega arith; needs = λ more. refl; none = λ limited. tt })
reads (Count up) ws = number_reads (Count up) (count_by up) ws (λ key word number. record { keys = refl; width = omega arith; needs = λ more. refl; none = λ limited. tt })
reads Verbosity ws = verbosity_reads ws
reads Flush ws = zeroed (Reads Flush ws) flushes ws (record { keys = refl; width = omega arith; needs = λ more. refl; none = λ limited. tt })
reads Quit ws = record { keys = refl; width = omega arith; needs = λ more. absurd (true≢false more); none = λ limited. tt }
reads name ws = record { keys = refl; width = omega arith; needs = λ more. refl; none = λ limited. tt }

-- the keys among words are none of them, the first, or all
pub keys_by_name : (P : List (List ℕ) → Type 0) (name : Name) (ws : List (List ℕ)) → P [] → P (first_word ws) → P ws → P (keys_among name ws)
keys_by_name P name ws none first all = go (which_keys name)
  where
    go : (keys : KeysAmong) → P (key_words keys ws)
    go no_word = none
    go one_word = first
    go each_word = all
