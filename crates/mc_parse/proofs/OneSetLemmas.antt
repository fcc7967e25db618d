-- Which lines with a block are a `set`.
use Rattle.std.proofs.Common.{◌≡◌, ℕ, Bool, true, false, if◌then◌else◌, List, refl, sym, ap, ◌∙◌, subst}
use Rattle.std.specs.Prelude.{Option, None, Some, MatchOption}
use Rattle.mc_meta.specs.declared.meta_line.MetaLine.{MetaLine}
use Rattle.mc_meta.specs.declared.meta_line.MetaLine.TheVariants as Metas
use Rattle.mc_meta.specs.Key.{bytes_in}
use Rattle.mc_meta.specs.Meta.{meta_line}
use Rattle.mc_parse.specs.declared.command.Command.TheVariants.{Fault}
use Rattle.mc_parse.specs.declared.error_line.ErrorLine.TheVariants.{BadChunk}
use Rattle.mc_parse.specs.declared.name.Name.{Name}
use Rattle.mc_parse.specs.declared.name.Name.TheVariants.{Store}
use Rattle.mc_parse.specs.declared.need.Need.{Need}
use Rattle.mc_parse.specs.declared.need.Need.TheVariants.{Nothing, Block, Quit}
use Rattle.mc_parse.specs.declared.parsed.Parsed.{Parsed}
use Rattle.mc_parse.specs.declared.verb.Verb.TheVariants.{Set, Add, Replace, Append, Prepend}
use Rattle.mc_parse.specs.MetaAsk.{MetaAsk, storing_ask, noops, meta_gets, meta_stores, meta_exchanges, meta_deletes}
use Rattle.mc_parse.specs.Form.{Ask, stores, exchanges, metas, Form, faulty, asks, meta_form, line_form}
use Rattle.mc_parse.specs.Need.{need}
use Rattle.mc_parse.specs.Parsed.{stored_ask, line_key, IsUnnamed, IsStoring, IsParsedBy, IsParsed}
use Rattle.mc_parse.specs.Meaning.{is_ended, value_of, alone_command, value_command, command_for, block_command_for, large_command_for, line_command, block_command, large_command, IsBlockFor}
use Rattle.mc_parse.specs.OneSet.{sets, is_set}

-- ---- names

pub set_name : (name : Name) → sets name ≡ true → name ≡ Store Set
set_name (Store Set) is = refl
set_name (Store Add) is = cc
set_name (Store Replace) is = cc
set_name (Store Append) is = cc
set_name (Store Prepend) is = cc
set_name name is = cc

other_stored : (name : Name) (key : List ℕ) (flags bytes unique : ℕ) (quiet b : Bool) (value : List ℕ) → sets name ≡ false
    → is_set (if b then value_command (stored_ask name key flags bytes unique) quiet value else Fault BadChunk quiet) ≡ false
other_stored name key flags bytes unique quiet false value other = refl
other_stored (Store Set) key flags bytes unique quiet true value other = cc
other_stored (Store Add) key flags bytes unique quiet true value other = refl
other_stored (Store Replace) key flags bytes unique quiet true value other = refl
other_stored (Store Append) key flags bytes unique quiet true value other = refl
other_stored (Store Prepend) key flags bytes unique quiet true value other = refl
other_stored name key flags bytes unique quiet true value other = refl

-- a storage line with another name is no `set`
pub other_name : (line block : List ℕ) (parsed : Parsed) (name : Name) → IsStoring line parsed name → sets name ≡ false → is_set (block_command_for block (line_form line)) ≡ false
other_name line block parsed name storing other =
    ap (λ (f : Form). is_set (block_command_for block f)) storing.says
    ∙ other_stored name (line_key line parsed) parsed.flags storing.bytes parsed.unique parsed.quiet (is_ended block) (value_of block) other

-- ---- meta commands

other_asked : (ask : MetaAsk) (quiet b : Bool) (value : List ℕ) → is_set (if b then value_command (metas ask) quiet value else Fault BadChunk quiet) ≡ false
other_asked ask quiet false value = refl
other_asked noops quiet true value = refl
other_asked (meta_gets key flags) quiet true value = refl
other_asked (meta_stores verb key flags bytes marks) quiet true value = refl
other_asked (meta_exchanges key flags bytes unique marks) quiet true value = refl
other_asked (meta_deletes key flags) quiet true value = refl

other_meta : (line block : List ℕ) (said : MetaLine) → is_set (block_command_for block (meta_form line said)) ≡ false
other_meta line block Metas.Other = refl
other_meta line block Metas.WrongCount = refl
other_meta line block Metas.Bad = refl
other_meta line block Metas.Noop = other_asked noops false (is_ended block) (value_of block)
other_meta line block (Metas.Get at flags) = other_asked (meta_gets (bytes_in line at) flags) false (is_ended block) (value_of block)
other_meta line block (Metas.Set at bytes flags unique mode marks) = other_asked (storing_ask (bytes_in line at) bytes flags unique mode marks) false (is_ended block) (value_of block)
other_meta line block (Metas.Delete at flags) = other_asked (meta_deletes (bytes_in line at) flags) false (is_ended block) (value_of block)

unnamed : (what : Need) (line block : List ℕ) (parsed : Parsed) → IsBlockFor what block → parsed.name ≡ None → IsParsedBy what line parsed → line_form line ≡ meta_form line (meta_line line)
unnamed Nothing line block parsed fits none is = absurd fits
unnamed (Block bytes) line block parsed fits none is = subst (λ (n : Option Name). MatchOption n (IsUnnamed line) (IsStoring line parsed)) none is
unnamed Quit line block parsed fits none is = absurd fits

-- a line without a name is no `set`
pub other_unnamed : (line block : List ℕ) (parsed : Parsed) → IsBlockFor (need line) block → parsed.name ≡ None → IsParsed line parsed → is_set (block_command line block) ≡ false
unfolding IsParsed block_command
other_unnamed line block parsed fits none is =
    ap (λ (f : Form). is_set (block_command_for block f)) (unnamed (need line) line block parsed fits none is) ∙ other_meta line block (meta_line line)

-- ---- lines without a value

other_alone_meta : (ask : MetaAsk) (quiet : Bool) → is_set (alone_command (metas ask) quiet) ≡ false
other_alone_meta noops quiet = refl
other_alone_meta (meta_gets key flags) quiet = refl
other_alone_meta (meta_stores verb key flags bytes marks) quiet = refl
other_alone_meta (meta_exchanges key flags bytes unique marks) quiet = refl
other_alone_meta (meta_deletes key flags) quiet = refl

other_alone : (ask : Ask) (quiet : Bool) → is_set (alone_command ask quiet) ≡ false
other_alone (metas ask) quiet = other_alone_meta ask quiet
other_alone ask quiet = refl

other_form : (form : Form) → is_set (command_for form) ≡ false
other_form (faulty fault) = refl
other_form (asks ask quiet) = other_alone ask quiet

other_large_form : (form : Form) → is_set (large_command_for form) ≡ false
other_large_form (faulty fault) = refl
other_large_form (asks ask quiet) = refl

-- a line without a block is no `set`
pub other_line : (line : List ℕ) → is_set (line_command line) ≡ false
unfolding line_command
other_line line = other_form (line_form line)

-- a line with a block that is too large is no `set`
pub other_large : (line : List ℕ) → is_set (large_command line) ≡ false
unfolding large_command
other_large line = other_large_form (line_form line)
