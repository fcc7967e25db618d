-- A line with the word noreply added says the same but asks for no answer, and each line that asks
-- for none is such a line.
use Rattle.std.proofs.Common.{◌≡◌, ℕ, suc, ◌<◌, ◌≤◌, Bool, true, false, not, ◌&&◌, if◌then◌else◌, List, [], ◌∷◌, ◌++◌, length, refl, sym, ap, ◌∙◌, arith, length-append}
use Rattle.std.specs.Prelude.{Option, None, Some, option_map, nat_le, nat_lt}
use Rattle.std.specs.List.{list_all}
use Rattle.std.proofs.Common.{◌⊎◌, inl, inr, ne_eqb}
use Rattle.std.proofs.lemmas.Bool.{leb-true, le-leb, ltb-true}
use Rattle.std.proofs.lemmas.Bool.Decides.{leb_tells}
use Rattle.zy_base.specs.Number.{number_of}
use Rattle.mc_parse.specs.declared.error_line.ErrorLine.{ErrorLine}
use Rattle.mc_parse.specs.declared.error_line.ErrorLine.TheVariants.{Unknown, BadLine, BadChunk}
use Rattle.mc_parse.specs.declared.need.Need.TheVariants.{Nothing}
use Rattle.mc_parse.specs.declared.command.Command.{Command}
use Rattle.mc_parse.specs.declared.command.Command.TheVariants.{Store as StoreCommand, Cas as CasCommand, Fault, Meta}
use Rattle.mc_parse.specs.declared.meta.Meta.TheVariants.{Set as SetMeta}
use Rattle.mc_calls.specs.declared.call.Call.TheVariants.{Cas as CasCall}
use Rattle.mc_parse.specs.Deed.{stored_by}
use Rattle.mc_parse.specs.MetaAsk.{noops, meta_gets, meta_stores, meta_exchanges, meta_deletes}
use Rattle.mc_parse.specs.declared.verb.Verb.{Verb}
use Rattle.mc_parse.specs.declared.name.Name.{Name}
use Rattle.mc_parse.specs.declared.name.Name.TheVariants.{Store, Cas, Delete, Count, Verbosity, Flush}
use Rattle.mc_parse.specs.Words.{words as words_of, is_noreply}
use Rattle.mc_parse.specs.Name.{name_of, arity_of}
use Rattle.mc_parse.specs.Number.{small_number_of, is_zero}
use Rattle.mc_parse.specs.Arity.{Following, from_to, has_count, ends_in_noreply, but_last, lacks_noreply, asks_silence, following, following_of}
use Rattle.mc_parse.specs.Form.{key_zero, key_number, count_by, Ask, stores, exchanges, deletes, sets_verbosity, flushes, quits, metas, Form, faulty, asks, is_key, keys_among, sizes_of, store_ask, cas_ask, store_words, cas_words, with_zero, verbosity_words, ask_of, number_fault, check, find, form_with, form_after, form_of, line_form}
use Rattle.mc_parse.specs.Need.{need_for}
use Rattle.mc_parse.specs.Meaning.{command_for, block_command_for, large_command_for, is_ended, value_of, IsBlockFor, IsTooLarge}
use Rattle.mc_laws.specs.Noreply.{silenced}
use Rattle.mc_laws.specs.Noreply.{may_be_quiet, is_loud, is_quiet, silent, with_noreply, EndsInNoreply}
use Rattle.mc_parse.proofs.WordLemmas.{words-parted, words-one}
use Rattle.mc_parse.proofs.MetaLemmas.{plain_form}
use Rattle.mc_laws.proofs.PlainLineLemmas.{loud_plain, quiet_plain}
use Rattle.mc_parse.proofs.ArityLemmas.{follows_by, both}
use Rattle.mc_laws.proofs.LastWordLemmas.{noreply, is_the_word, ends-split, unsilenced, follows_silently}

-- ---- what is said of an ask, found or not

-- the checks of keys and numbers, given what was found
abbrev said : Bool → ErrorLine → Option Ask → Bool → Form
said keys fault found quiet = check keys BadLine (find found fault (λ ask. asks ask quiet))

said_same : (keys : Bool) (fault : ErrorLine) (found : Option Ask) → said keys fault found true ≡ silent (said keys fault found false)
said_same false fault found = refl
said_same true fault None = refl
said_same true fault (Some ask) = refl

not_both : (b : Bool) → b && not true ≡ false
not_both true = refl
not_both false = refl

quiet_is_not_loud : (keys : Bool) (fault : ErrorLine) (found : Option Ask) → is_loud (said keys fault found true) ≡ false
quiet_is_not_loud false fault found = refl
quiet_is_not_loud true fault None = refl
quiet_is_not_loud true fault (Some ask) = not_both (may_be_quiet ask)

loud_is_not_quiet : (keys : Bool) (fault : ErrorLine) (found : Option Ask) → is_quiet (said keys fault found false) ≡ false
loud_is_not_quiet false fault found = refl
loud_is_not_quiet true fault None = refl
loud_is_not_quiet true fault (Some ask) = refl

-- what was found may be asked for without an answer
abbrev may_all : Option Ask → Bool
may_all None = true
may_all (Some ask) = may_be_quiet ask

-- something was found, which may be asked for without an answer
abbrev may_any : Option Ask → Bool
may_any None = false
may_any (Some ask) = may_be_quiet ask

never : (keys : Bool) (fault : ErrorLine) (found : Option Ask) (quiet : Bool) → is_loud (said keys fault found quiet) ≡ true → may_any found ≡ true
never false fault found quiet loud = absurd (cc)
never true fault None quiet loud = absurd (cc)
never true fault (Some ask) quiet loud = go (may_be_quiet ask) loud
  where
    go : (may : Bool) → may && not quiet ≡ true → may ≡ true
    go true is = refl
    go false is = is

loud_again : (keys : Bool) (fault : ErrorLine) (found : Option Ask) → may_all found ≡ true → is_quiet (said keys fault found true) ≡ true → is_loud (said keys fault found false) ≡ true
loud_again false fault found may quiet = absurd (cc)
loud_again true fault None may quiet = absurd (cc)
loud_again true fault (Some ask) may quiet = rw may refl

-- ---- names that may ask for no answer

map_may : {A : Type 0} → (make : A → Ask) (found : Option A) → ((x : A) → may_be_quiet (make x) ≡ true) → may_all (option_map make found) ≡ true
map_may make None each = refl
map_may make (Some x) each = each x

cas_may : (key : List ℕ) (sizes : Option _) (unique : Option ℕ) → may_all (cas_ask key sizes unique) ≡ true
cas_may key None unique = refl
cas_may key (Some sizes) None = refl
cas_may key (Some sizes) (Some unique) = refl

zero_may : (ask : Ask) (words : List (List ℕ)) → may_be_quiet ask ≡ true → may_all (with_zero ask words) ≡ true
zero_may ask [] may = may
zero_may ask (zero ∷ []) may = go (is_zero zero)
  where
    go : (b : Bool) → may_all (if b then Some ask else None) ≡ true
    go true = may
    go false = refl
zero_may ask (word ∷ next ∷ words) may = refl

-- a name that takes between a minimum and a maximum number of words
pub record MayEnd (name : Name) (least most : ℕ) : Type 0 where
  pub is : arity_of name ≡ from_to least most
  pub few : least < most
  -- what it asks for may be asked for without an answer
  pub may : (words : List (List ℕ)) → may_all (ask_of name words) ≡ true
  -- noreply after more words than are required is not a number
  pub other : (words : List (List ℕ)) → ends_in_noreply words ≡ true → least < length words → ask_of name words ≡ None

store_may : (verb : Verb) (words : List (List ℕ)) → may_all (store_words verb words) ≡ true
store_may verb [] = refl
store_may verb (a ∷ []) = refl
store_may verb (a ∷ b ∷ []) = refl
store_may verb (a ∷ b ∷ c ∷ []) = refl
store_may verb (key ∷ flags ∷ exptime ∷ bytes ∷ []) = map_may (store_ask verb key) (sizes_of flags exptime bytes) (λ sizes. refl)
store_may verb (a ∷ b ∷ c ∷ d ∷ e ∷ words) = refl

store_ends : (verb : Verb) → MayEnd (Store verb) 4 5
store_ends verb = record { is = refl; few = omega arith; may = store_may verb; other = other }
  where
    other : (words : List (List ℕ)) → ends_in_noreply words ≡ true → 4 < length words → store_words verb words ≡ None
    other [] ends more = refl
    other (a ∷ []) ends more = refl
    other (a ∷ b ∷ []) ends more = refl
    other (a ∷ b ∷ c ∷ []) ends more = refl
    other (a ∷ b ∷ c ∷ d ∷ []) ends more = absurd (omega arith)
    other (a ∷ b ∷ c ∷ d ∷ e ∷ words) ends more = refl

cas_ends : MayEnd Cas 5 6
cas_ends = record { is = refl; few = omega arith; may = may; other = other }
  where
    may : (words : List (List ℕ)) → may_all (cas_words words) ≡ true
    may [] = refl
    may (a ∷ []) = refl
    may (a ∷ b ∷ []) = refl
    may (a ∷ b ∷ c ∷ []) = refl
    may (a ∷ b ∷ c ∷ d ∷ []) = refl
    may (key ∷ flags ∷ exptime ∷ bytes ∷ unique ∷ []) = cas_may key (sizes_of flags exptime bytes) (number_of unique)
    may (a ∷ b ∷ c ∷ d ∷ e ∷ f ∷ words) = refl

    other : (words : List (List ℕ)) → ends_in_noreply words ≡ true → 5 < length words → cas_words words ≡ None
    other [] ends more = refl
    other (a ∷ []) ends more = refl
    other (a ∷ b ∷ []) ends more = refl
    other (a ∷ b ∷ c ∷ []) ends more = refl
    other (a ∷ b ∷ c ∷ d ∷ []) ends more = refl
    other (a ∷ b ∷ c ∷ d ∷ e ∷ []) ends more = absurd (omega arith)
    other (a ∷ b ∷ c ∷ d ∷ e ∷ f ∷ words) ends more = refl

no_zero : (ask : Ask) (zero : List ℕ) → is_noreply zero ≡ true → with_zero ask (zero ∷ []) ≡ None
no_zero ask zero ends = rw (is_the_word zero ends) refl

-- a name whose words are read in this form
form_ends : (name : Name) (least most : ℕ) (form : List (List ℕ) → Option Ask) → arity_of name ≡ from_to least most → least < most → ((words : List (List ℕ)) → ask_of name words ≡ form words) → ((words : List (List ℕ)) → may_all (form words) ≡ true)
    → ((words : List (List ℕ)) → ends_in_noreply words ≡ true → least < length words → form words ≡ None) → MayEnd name least most
form_ends name least most form is few asked may other = record { is = is; few = few; may = λ words. ap may_all (asked words) ∙ may words; other = λ words ends more. asked words ∙ other words ends more }

-- a name that asks by a key, and a zero that may follow it
zero_ends : (name : Name) (ask : List ℕ → Ask) → arity_of name ≡ from_to 1 3 → ((words : List (List ℕ)) → ask_of name words ≡ key_zero ask words) → ((key : List ℕ) → may_be_quiet (ask key) ≡ true) → MayEnd name 1 3
zero_ends name ask is asked quiet = form_ends name 1 3 (key_zero ask) is (omega arith) asked may other
  where
    may : (words : List (List ℕ)) → may_all (key_zero ask words) ≡ true
    may [] = refl
    may (key ∷ words) = zero_may (ask key) words (quiet key)

    other : (words : List (List ℕ)) → ends_in_noreply words ≡ true → 1 < length words → key_zero ask words ≡ None
    other [] ends more = refl
    other (key ∷ []) ends more = absurd (omega arith)
    other (key ∷ zero ∷ []) ends more = no_zero (ask key) zero ends
    other (key ∷ word ∷ next ∷ words) ends more = refl

-- a name that asks by a key and a number
number_ends : (name : Name) (ask : List ℕ → ℕ → Ask) → arity_of name ≡ from_to 2 3 → ((words : List (List ℕ)) → ask_of name words ≡ key_number ask words) → ((key : List ℕ) (number : ℕ) → may_be_quiet (ask key number) ≡ true) → MayEnd name 2 3
number_ends name ask is asked quiet = form_ends name 2 3 (key_number ask) is (omega arith) asked may other
  where
    may : (words : List (List ℕ)) → may_all (key_number ask words) ≡ true
    may [] = refl
    may (key ∷ []) = refl
    may (key ∷ number ∷ []) = map_may (ask key) (number_of number) (quiet key)
    may (a ∷ b ∷ c ∷ words) = refl

    other : (words : List (List ℕ)) → ends_in_noreply words ≡ true → 2 < length words → key_number ask words ≡ None
    other [] ends more = refl
    other (a ∷ []) ends more = refl
    other (a ∷ b ∷ []) ends more = absurd (omega arith)
    other (a ∷ b ∷ c ∷ words) ends more = refl

verbosity_ends : MayEnd Verbosity 1 2
verbosity_ends = record { is = refl; few = omega arith; may = may; other = other }
  where
    may : (words : List (List ℕ)) → may_all (verbosity_words words) ≡ true
    may [] = refl
    may (number ∷ []) = map_may (λ _. sets_verbosity) (small_number_of number) (λ number. refl)
    may (a ∷ b ∷ words) = refl

    other : (words : List (List ℕ)) → ends_in_noreply words ≡ true → 1 < length words → verbosity_words words ≡ None
    other [] ends more = refl
    other (a ∷ []) ends more = absurd (omega arith)
    other (a ∷ b ∷ words) ends more = refl

flush_ends : MayEnd Flush 0 2
flush_ends = record { is = refl; few = omega arith; may = λ words. zero_may flushes words refl; other = other }
  where
    other : (words : List (List ℕ)) → ends_in_noreply words ≡ true → 0 < length words → with_zero flushes words ≡ None
    other [] ends more = absurd (omega arith)
    other (zero ∷ []) ends more = no_zero flushes zero ends
    other (word ∷ next ∷ words) ends more = refl

-- a name that takes no noreply
record Never (name : Name) : Type 0 where
  pub follows : (words : List (List ℕ))
      → following_of (arity_of name) words ≡ (if has_count (arity_of name) (length words) && not false then Some (following words false) else None)
  -- what it asks for may not be asked for without an answer
  pub loud : (words : List (List ℕ)) → may_any (ask_of name words) ≡ false

-- whether noreply may follow a name, and after how many words
data Ends (name : Name) : Type 0 where
  may_end : (least most : ℕ) → MayEnd name least most → Ends name
  never_ends : Never name → Ends name

-- the names
ends_of : (name : Name) → Ends name
ends_of (Store verb) = may_end 4 5 (store_ends verb)
ends_of Cas = may_end 5 6 cas_ends
ends_of Delete = may_end 1 3 (zero_ends Delete deletes refl (λ words. refl) (λ key. refl))
ends_of (Count up) = may_end 2 3 (number_ends (Count up) (count_by up) refl (λ words. refl) (λ key number. refl))
ends_of Verbosity = may_end 1 2 verbosity_ends
ends_of Flush = may_end 0 2 flush_ends
ends_of name = never_ends (record { follows = λ words. refl; loud = λ words. refl })

-- ---- noreply added to a line

-- the facts by which a line asks for an answer
record Counted (has lacks ends : Bool) : Type 0 where
  pub has_is : has ≡ true
  pub lacks_is : lacks ≡ false
  pub asks_is : ends ≡ false

loud_facts : (name : Name) (words : List (List ℕ)) (has lacks ends : Bool)
    → is_loud (find (if has && not lacks then Some (following words ends) else None) Unknown (λ following. form_with name following)) ≡ true → Counted has lacks ends
loud_facts name words true false false loud = record { has_is = refl; lacks_is = refl; asks_is = refl }
loud_facts name words true false true loud =
    let no : false ≡ true = sym (quiet_is_not_loud (list_all is_key (keys_among name (but_last words))) (number_fault name) (ask_of name (but_last words))) ∙ loud in absurd (cc)
loud_facts name words true true ends loud = absurd (cc)
loud_facts name words false lacks ends loud = absurd (cc)

said_loudly : (name : Name) (words : List (List ℕ)) (has lacks ends : Bool) → Counted has lacks ends
    → find (if has && not lacks then Some (following words ends) else None) Unknown (λ following. form_with name following) ≡ form_with name (record { words = words; quiet = false })
said_loudly name words has lacks ends is = rw (is.has_is, is.lacks_is, is.asks_is) refl

silences_some : (name : Name) (least most : ℕ) → MayEnd name least most → (words : List (List ℕ)) → is_loud (form_after name words) ≡ true
    → form_after name (words ++ noreply ∷ []) ≡ silent (form_after name words)
silences_some name least most ends words loud =
    let after : List (List ℕ) → Form = λ ws. find (following_of (from_to least most) ws) Unknown (λ following. form_with name following) in
    let is : (ws : List (List ℕ)) → form_after name ws ≡ after ws = λ ws. ap (λ arity. find (following_of arity ws) Unknown (λ following. form_with name following)) ends.is in
    let facts = loud_facts name words (has_count (from_to least most) (length words)) (lacks_noreply (from_to least most) words) (asks_silence (from_to least most) words) (sym (ap is_loud (is words)) ∙ loud) in
    let counted = unsilenced least most words ends.few facts.has_is facts.lacks_is facts.asks_is in
    is (words ++ noreply ∷ [])
    ∙ ap (λ (found : Option Following). find found Unknown (λ following. form_with name following)) (follows_silently least most words counted)
    ∙ said_same (list_all is_key (keys_among name words)) (number_fault name) (ask_of name words)
    ∙ sym (ap silent (is words ∙ said_loudly name words (has_count (from_to least most) (length words)) (lacks_noreply (from_to least most) words) (asks_silence (from_to least most) words) facts))

-- what is asked for by a name that takes no noreply
never_some : (name : Name) (words : List (List ℕ)) (has : Bool) → may_any (ask_of name words) ≡ false
    → is_loud (find (if has && not false then Some (following words false) else None) Unknown (λ following. form_with name following)) ≡ false
never_some name words false may = refl
never_some name words true may = go (is_loud (form_with name (record { words = words; quiet = false }))) refl
  where
    go : (b : Bool) → is_loud (form_with name (record { words = words; quiet = false })) ≡ b → b ≡ false
    go false is = refl
    go true is = sym (never (list_all is_key (keys_among name words)) (number_fault name) (ask_of name words) false is) ∙ may

silences_after : (name : Name) (words : List (List ℕ)) → is_loud (form_after name words) ≡ true → form_after name (words ++ noreply ∷ []) ≡ silent (form_after name words)
silences_after name words loud = go (ends_of name)
  where
    go : Ends name → form_after name (words ++ noreply ∷ []) ≡ silent (form_after name words)
    go (may_end least most ends) = silences_some name least most ends words loud
    go (never_ends never) =
        let no : false ≡ true =
        sym (never_some name words (has_count (arity_of name) (length words)) (never.loud words))
        ∙ sym (ap (λ (found : Option Following). is_loud (find found Unknown (λ following. form_with name following))) (never.follows words)) ∙ loud in
        absurd (cc)

silences_found : (name : Option Name) (words : List (List ℕ)) → is_loud (find name Unknown (λ name. form_after name words)) ≡ true
    → find name Unknown (λ name. form_after name (words ++ noreply ∷ [])) ≡ silent (find name Unknown (λ name. form_after name words))
silences_found None words loud = absurd (cc)
silences_found (Some name) words loud = silences_after name words loud

silences_words : (line : List (List ℕ)) → is_loud (form_of line) ≡ true → form_of (line ++ noreply ∷ []) ≡ silent (form_of line)
silences_words [] loud = absurd (cc)
silences_words (name ∷ words) loud = silences_found (name_of name) words loud

-- the words of a line with noreply added are its words and noreply
words-noreply : (line : List ℕ) → words_of (with_noreply line) ≡ words_of line ++ noreply ∷ []
words-noreply line = words-parted line noreply ∙ ap (λ (more : List (List ℕ)). words_of line ++ more) (words-one noreply refl)

-- a line with noreply added says the same without an answer
pub form-noreply : (line : List ℕ) → is_loud (line_form line) ≡ true → line_form (with_noreply line) ≡ silent (line_form line)
form-noreply line loud =
    let is = loud_plain line loud in
    let same = plain_form line is.name is.rest is.split is.plain in
    let split : words_of (with_noreply line) ≡ is.name ∷ (is.rest ++ noreply ∷ []) = words-noreply line ∙ ap (λ (ws : List (List ℕ)). ws ++ noreply ∷ []) is.split in
    plain_form (with_noreply line) is.name (is.rest ++ noreply ∷ []) split is.plain
    ∙ silences_words (is.name ∷ is.rest) (sym (ap is_loud same) ∙ loud) ∙ ap silent (sym same)

-- ---- a line that asks for no answer

-- words with noreply added say quietly what they say without it
record Silenced (form : List (List ℕ) → Form) (front all : List (List ℕ)) : Type 0 where
  pub ends : all ≡ front ++ noreply ∷ []
  pub loud : is_loud (form front) ≡ true
  pub says : form all ≡ silent (form front)

quiet_facts : (name : Name) (words : List (List ℕ)) (has lacks ends : Bool)
    → is_quiet (find (if has && not lacks then Some (following words ends) else None) Unknown (λ following. form_with name following)) ≡ true
    → (has ≡ true) × (lacks ≡ false) × (ends ≡ true)
quiet_facts name words true false true quiet = (refl, refl, refl)
quiet_facts name words true false false quiet =
    let no : false ≡ true = sym (loud_is_not_quiet (list_all is_key (keys_among name words)) (number_fault name) (ask_of name words)) ∙ quiet in absurd (cc)
quiet_facts name words true true ends quiet = absurd (cc)
quiet_facts name words false lacks ends quiet = absurd (cc)

-- an ask that is quiet was found
found_not_none : (keys : Bool) (fault : ErrorLine) (found : Option Ask) → is_quiet (said keys fault found true) ≡ true → found ≡ None → false ≡ true
found_not_none keys fault found quiet none = sym (go keys) ∙ sym (ap (λ (f : Option Ask). is_quiet (said keys fault f true)) none) ∙ quiet
  where
    go : (keys : Bool) → is_quiet (said keys fault None true) ≡ false
    go true = refl
    go false = refl

-- words to which noreply may be added, and which do not themselves end in it where more words than
-- required follow
front_counted : (least most : ℕ) (front : List (List ℕ)) → least ≤ length front → length front < most → (ends_in_noreply front ≡ true → least < length front → false ≡ true)
    → Counted (has_count (from_to least most) (length front)) (lacks_noreply (from_to least most) front) (asks_silence (from_to least most) front)
front_counted least most front some room other =
    let low = le-leb least (length front) some in
    let high = le-leb (length front) most (omega arith) in
    let differs = ne_eqb (length front) most (omega arith) in
    record {
      has_is = rw (low, high) refl;
      lacks_is = rw differs refl;
      asks_is = go (leb_tells (suc least) (length front)) (ends_in_noreply front) refl;
    }
  where
    go : ((nat_le (suc least) (length front) ≡ true) × (suc least ≤ length front)) ⊎ ((nat_le (suc least) (length front) ≡ false) × (length front < suc least))
        → (e : Bool) → ends_in_noreply front ≡ e → nat_lt least (length front) && e ≡ false
    go (inr t) e is = rw (t.0) refl
    go (inl t) false is = rw (t.0) refl
    go (inl t) true is = let no = other is (omega (arith, t.1)) in absurd (cc)

quiet_some : (name : Name) (least most : ℕ) → MayEnd name least most → (words : List (List ℕ)) → is_quiet (form_after name words) ≡ true
    → Silenced (form_after name) (but_last words) words
quiet_some name least most ends words quiet =
    let front : List (List ℕ) = but_last words in
    let keys : Bool = list_all is_key (keys_among name front) in
    let after : List (List ℕ) → Form = λ ws. find (following_of (from_to least most) ws) Unknown (λ following. form_with name following) in
    let is : (ws : List (List ℕ)) → form_after name ws ≡ after ws = λ ws. ap (λ arity. find (following_of arity ws) Unknown (λ following. form_with name following)) ends.is in
    let facts = quiet_facts name words (has_count (from_to least most) (length words)) (lacks_noreply (from_to least most) words) (asks_silence (from_to least most) words) (sym (ap is_quiet (is words)) ∙ quiet) in
    let counts = both (nat_le least (length words)) (nat_le (length words) most) facts.0 in
    let last = both (nat_lt least (length words)) (ends_in_noreply words) facts.2 in
    let split = ends-split words last.1 in
    let size = ap (λ (ws : List (List ℕ)). length ws) split in
    let sizes = length-append front (noreply ∷ []) in
    let over = ltb-true least (length words) last.0 in
    let within = leb-true (length words) most counts.1 in
    let quietly = is words ∙ ap (λ (found : Option Following). find found Unknown (λ following. form_with name following))
    (follows_by (has_count (from_to least most) (length words)) (lacks_noreply (from_to least most) words) (asks_silence (from_to least most) words) words front facts.0 facts.1 facts.2 refl) in
    let quiet_front = sym (ap is_quiet quietly) ∙ quiet in
    let loudly = is front ∙ said_loudly name front (has_count (from_to least most) (length front)) (lacks_noreply (from_to least most) front) (asks_silence (from_to least most) front)
    (front_counted least most front (omega (arith, over, size, sizes)) (omega (arith, within, size, sizes))
    (λ ends_too more. found_not_none keys (number_fault name) (ask_of name front) quiet_front (ends.other front ends_too more))) in
    record {
      ends = split;
      loud = ap is_loud loudly ∙ loud_again keys (number_fault name) (ask_of name front) (ends.may front) quiet_front;
      says = quietly ∙ said_same keys (number_fault name) (ask_of name front) ∙ sym (ap silent loudly);
    }

never_quiet : (name : Name) (words : List (List ℕ)) (has : Bool)
    → is_quiet (find (if has && not false then Some (following words false) else None) Unknown (λ following. form_with name following)) ≡ false
never_quiet name words false = refl
never_quiet name words true = loud_is_not_quiet (list_all is_key (keys_among name words)) (number_fault name) (ask_of name words)

quiet_after : (name : Name) (words : List (List ℕ)) → is_quiet (form_after name words) ≡ true → Silenced (form_after name) (but_last words) words
quiet_after name words quiet = go (ends_of name)
  where
    go : Ends name → Silenced (form_after name) (but_last words) words
    go (may_end least most ends) = quiet_some name least most ends words quiet
    go (never_ends never) =
        let no : false ≡ true =
        sym (never_quiet name words (has_count (arity_of name) (length words)))
        ∙ sym (ap (λ (found : Option Following). is_quiet (find found Unknown (λ following. form_with name following))) (never.follows words)) ∙ quiet in
        absurd (cc)

quiet_found : (found : Option Name) (word : List ℕ) (words : List (List ℕ)) → name_of word ≡ found → is_quiet (find found Unknown (λ name. form_after name words)) ≡ true
    → Silenced form_of (word ∷ but_last words) (word ∷ words)
quiet_found None word words is quiet = absurd (cc)
quiet_found (Some name) word words is quiet =
    let found = quiet_after name words quiet in
    let after : (ws : List (List ℕ)) → form_of (word ∷ ws) ≡ form_after name ws = λ ws. ap (λ (n : Option Name). find n Unknown (λ name. form_after name ws)) is in
    record {
      ends = ap (λ (ws : List (List ℕ)). word ∷ ws) found.ends;
      loud = ap is_loud (after (but_last words)) ∙ found.loud;
      says = after words ∙ found.says ∙ sym (ap silent (after (but_last words)));
    }

quiet_words : (all : List (List ℕ)) → is_quiet (form_of all) ≡ true → (front : List (List ℕ)) × Silenced form_of front all
quiet_words [] quiet = absurd (cc)
quiet_words (word ∷ words) quiet = (word ∷ but_last words, quiet_found (name_of word) word words refl quiet)

-- a line that asks for no answer ends in noreply, and without it says the same with an answer
pub quiet_line : (line : List ℕ) → is_quiet (line_form line) ≡ true → EndsInNoreply line
quiet_line line quiet =
    let is = quiet_plain line quiet in
    let same = plain_form line is.name is.rest is.split is.plain in
    let found = quiet_words (is.name ∷ is.rest) (sym (ap is_quiet same) ∙ quiet) in
    record { front = found.0; ends = is.split ∙ found.1.ends; loud = found.1.loud; says = same ∙ found.1.says }

-- ---- commands

-- the line needs the same
pub silent-need : (form : Form) → need_for (silent form) ≡ need_for form
silent-need (faulty line) = refl
silent-need (asks ask quiet) = refl

-- without a block it is the same command, silenced
pub silent-line : (form : Form) → is_loud form ≡ true → need_for form ≡ Nothing → command_for (silent form) ≡ silenced (command_for form)
silent-line (faulty line) loud alone = absurd (cc)
silent-line (asks (stores verb key flags bytes) quiet) loud alone = absurd (cc)
silent-line (asks (exchanges key flags bytes unique) quiet) loud alone = absurd (cc)
silent-line (asks quits quiet) loud alone = absurd (cc)
silent-line (asks (metas ask) quiet) loud alone = absurd (cc)
silent-line (asks ask quiet) loud alone = refl

ended_same : (ended quiet : Bool) (quietly loudly : Command) → quietly ≡ silenced loudly
    → (if ended then quietly else Fault BadChunk true) ≡ silenced (if ended then loudly else Fault BadChunk quiet)
ended_same true quiet quietly loudly same = same
ended_same false quiet quietly loudly same = refl

-- with its block it is the same command, silenced
pub silent-block : (form : Form) (block : List ℕ) → IsBlockFor (need_for form) block → block_command_for block (silent form) ≡ silenced (block_command_for block form)
silent-block (faulty line) block fits = absurd fits
silent-block (asks (stores verb key flags bytes) quiet) block fits = ended_same (is_ended block) quiet (StoreCommand verb key flags (value_of block) true) (StoreCommand verb key flags (value_of block) quiet) refl
silent-block (asks (exchanges key flags bytes unique) quiet) block fits = ended_same (is_ended block) quiet (CasCommand key flags unique (value_of block) true) (CasCommand key flags unique (value_of block) quiet) refl
silent-block (asks (metas noops) quiet) block fits = absurd fits
silent-block (asks (metas (meta_gets key flags)) quiet) block fits = absurd fits
silent-block (asks (metas (meta_deletes key flags)) quiet) block fits = absurd fits
silent-block (asks (metas (meta_stores verb key flags bytes marks)) quiet) block fits =
    let stored : Command = Meta (SetMeta key (stored_by verb key flags (value_of block)) marks) in ended_same (is_ended block) quiet stored stored refl
silent-block (asks (metas (meta_exchanges key flags bytes unique marks)) quiet) block fits =
    let stored : Command = Meta (SetMeta key (CasCall flags key unique (value_of block)) marks) in ended_same (is_ended block) quiet stored stored refl
silent-block (asks ask quiet) block fits = absurd fits

-- with a block that is too large it is the same fault, silenced
pub silent-large : (form : Form) → IsTooLarge (need_for form) → large_command_for (silent form) ≡ silenced (large_command_for form)
silent-large (faulty line) large = absurd large
silent-large (asks ask quiet) large = refl
