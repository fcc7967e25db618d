-- Which lines are retrievals of one key.
use Rattle.std.proofs.Common.{◌≡◌, ◌≢◌, ℕ, Bool, true, false, List, [], ◌∷◌, refl, sym, subst}
use Rattle.std.specs.List.{list_all}
use Rattle.std.specs.Prelude.{Option, None, Some, IfSome, MatchOption}
use Rattle.mc_meta.specs.Meta.{meta_line}
use Rattle.mc_meta.specs.declared.meta_line.MetaLine.{MetaLine}
use Rattle.mc_meta.specs.declared.meta_line.MetaLine.TheVariants as Metas
use Rattle.mc_parse.specs.declared.command.Command.{Command}
use Rattle.mc_parse.specs.declared.command.Command.TheVariants.{Get as GetCommand}
use Rattle.mc_parse.specs.declared.error_line.ErrorLine.{ErrorLine}
use Rattle.mc_parse.specs.declared.name.Name.{Name}
use Rattle.mc_parse.specs.declared.name.Name.TheVariants.{Get}
use Rattle.mc_parse.specs.declared.need.Need.{Need}
use Rattle.mc_parse.specs.declared.need.Need.TheVariants.{Nothing}
use Rattle.mc_parse.specs.declared.parsed.Parsed.{Parsed}
use Rattle.mc_parse.specs.Need.{need}
use Rattle.mc_parse.specs.Parsed.{IsUnnamed, IsNamed, IsParsedBy, IsParsed}
use Rattle.mc_parse.specs.MetaAsk.{MetaAsk, noops, meta_gets, meta_stores, meta_exchanges, meta_deletes}
use Rattle.mc_parse.specs.Form.{Ask, gets, stores, exchanges, metas, Form, faulty, asks, is_key, check, find, ask_of, keys_among, number_fault, form_with, form_after, meta_form, line_form}
use Rattle.mc_parse.specs.Arity.{Following, following_of}
use Rattle.mc_parse.specs.Name.{arity_of}
use Rattle.mc_parse.specs.Meaning.{is_ended, value_of, alone_command, value_command, command_for, block_command_for, large_command_for, line_command, block_command, large_command, long_command}
use Rattle.mc_parse.specs.Line.{IsLimited}
use Rattle.mc_parse.proofs.AskLemmas.{GetsNone, Reads, reads}
use Rattle.mc_parse.proofs.GetLemmas.{gets_keys, gets_long}

-- a command is no retrieval of one key
abbrev pub IsOther : Command → Type 0
IsOther command = (key : List ℕ) (unique : Bool) → command ≢ GetCommand (key ∷ []) unique

-- ---- a retrieval

-- the only word is got, if it can be a key
pub one_word_got : (unique : Bool) (ws : List (List ℕ)) (key : List ℕ) → ws ≡ key ∷ [] → is_key key ≡ true → command_for (form_after (Get unique) ws) ≡ GetCommand (key ∷ []) unique
one_word_got unique ws key same is = rw same (gets_keys unique (key ∷ []) (rw is refl))

-- no other words are a retrieval of one key
pub other_words : (unique : Bool) (ws : List (List ℕ)) → ((key : List ℕ) → ws ≡ key ∷ [] → is_key key ≡ false) → IsOther (command_for (form_after (Get unique) ws))
other_words unique [] long = λ key u same. cc
other_words unique (word ∷ []) long = λ key u same. let fault = gets_long unique (word ∷ []) (rw (long word refl) refl) in cc
other_words unique (word ∷ next ∷ ws) long = go (list_all is_key (word ∷ next ∷ ws)) refl
  where
    go : (b : Bool) → list_all is_key (word ∷ next ∷ ws) ≡ b → IsOther (command_for (form_after (Get unique) (word ∷ next ∷ ws)))
    go true are = λ key u same. let got = gets_keys unique (word ∷ next ∷ ws) are in cc
    go false are = λ key u same. let fault = gets_long unique (word ∷ next ∷ ws) are in cc

-- ---- other lines

other_found : {A : Type 0} (found : Option A) (fault : ErrorLine) (form : A → Form) → ((one : A) → found ≡ Some one → IsOther (command_for (form one))) → IsOther (command_for (find found fault form))
other_found None fault form each = λ key unique same. cc
other_found (Some one) fault form each = each one refl

other_checked : (b : Bool) (fault : ErrorLine) (form : Form) → IsOther (command_for form) → IsOther (command_for (check b fault form))
other_checked true fault form is = is
other_checked false fault form is = λ key unique same. cc

other_meta_ask : (ask : MetaAsk) (quiet : Bool) → IsOther (alone_command (metas ask) quiet)
other_meta_ask noops quiet = λ key unique same. cc
other_meta_ask (meta_gets key flags) quiet = λ key unique same. cc
other_meta_ask (meta_deletes key flags) quiet = λ key unique same. cc
other_meta_ask (meta_stores verb key flags bytes marks) quiet = λ key unique same. cc
other_meta_ask (meta_exchanges key flags bytes number marks) quiet = λ key unique same. cc

other_ask : (ask : Ask) (quiet : Bool) → GetsNone ask → IsOther (alone_command ask quiet)
other_ask (gets keys unique) quiet none = absurd none
other_ask (metas ask) quiet none = other_meta_ask ask quiet
other_ask ask quiet none = λ key unique same. cc

-- a line with another name
pub other_name : (name : Name) (ws : List (List ℕ)) → IsLimited name → IsOther (command_for (form_after name ws))
other_name name ws limited =
    other_found (following_of (arity_of name) ws) _ (form_with name)
    (λ (f : Following) there. other_checked (list_all is_key (keys_among name f.words)) _ _
    (other_found (ask_of name f.words) (number_fault name) (λ ask. asks ask f.quiet)
    (λ ask is. other_ask ask f.quiet ((subst (λ (o : Option Ask). IfSome o (Reads name f.words)) is (reads name f.words)).none limited))))

-- a meta command
pub other_meta : (line : List ℕ) (said : MetaLine) → IsOther (command_for (meta_form line said))
other_meta line Metas.Other = λ key unique same. cc
other_meta line Metas.WrongCount = λ key unique same. cc
other_meta line Metas.Bad = λ key unique same. cc
other_meta line Metas.Noop = λ key unique same. cc
other_meta line (Metas.Get at flags) = λ key unique same. cc
other_meta line (Metas.Set at bytes flags unique mode marks) = other_meta_ask _ false
other_meta line (Metas.Delete at flags) = λ key unique same. cc

other_value : (ask : Ask) (quiet : Bool) (value : List ℕ) → IsOther (value_command ask quiet value)
other_value (metas (meta_stores verb key flags bytes marks)) quiet value = λ k unique same. cc
other_value (metas (meta_exchanges key flags bytes number marks)) quiet value = λ k unique same. cc
other_value (metas ask) quiet value = λ k unique same. cc
other_value ask quiet value = λ k unique same. cc

other_block_form : (block : List ℕ) (form : Form) → IsOther (block_command_for block form)
other_block_form block (faulty fault) = λ key unique same. cc
other_block_form block (asks ask quiet) = go (is_ended block) refl
  where
    go : (b : Bool) → is_ended block ≡ b → IsOther (block_command_for block (asks ask quiet))
    go true is = rw is (other_value ask quiet (value_of block))
    go false is = rw is (λ key unique same. cc)

other_large_form : (form : Form) → IsOther (large_command_for form)
other_large_form (faulty fault) = λ key unique same. cc
other_large_form (asks ask quiet) = λ key unique same. cc

-- a line with its block
pub other_block : (line block : List ℕ) → IsOther (block_command line block)
unfolding block_command
other_block line block = other_block_form block (line_form line)

-- a line with a block that is too large
pub other_large : (line : List ℕ) → IsOther (large_command line)
unfolding large_command
other_large line = other_large_form (line_form line)

-- a line that is too long
pub other_long : IsOther long_command
other_long = λ key unique same. cc

-- ---- what was read of a line

-- a line that was read without a name
pub unnamed_other : (line : List ℕ) (parsed : Parsed) → parsed.name ≡ None → need line ≡ Nothing → IsParsed line parsed → IsOther (line_command line)
unfolding IsParsed line_command
unnamed_other line parsed none alone is =
    let says : IsUnnamed line = subst (λ (n : Option Name). MatchOption n (IsUnnamed line) (IsNamed line parsed)) none (subst (λ (n : Need). IsParsedBy n line parsed) alone is) in
    subst (λ (f : Form). IsOther (command_for f)) (sym says) (other_meta line (meta_line line))
