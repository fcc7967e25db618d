-- A journal text without a fault is the bytes that spell what was read of it.
use Rattle.std.proofs.Common.{◌≡◌, inl, inr, ℕ, ◌+◌, ◌<◌, ◌≤◌, true, List, [], ◌∷◌, ◌++◌, length, take, get_or, refl, sym, ◌∙◌, ap, subst, arith, append_assoc, length-append}
use Rattle.std.specs.Prelude.{◌==◌, flat_map, ⊤}
use Rattle.std.specs.List.{slice_index, concat}
use Rattle.std.specs.Int.{from_be_bytes, w32, w64}
use Rattle.std.proofs.lemmas.List.{append-nil}
use Rattle.std.proofs.lemmas.Bool.{eqb-true}
use Rattle.std.proofs.lemmas.Grind.{common_steps}
use Rattle.mc_calls.specs.declared.entry.Entry.{Entry}
use Rattle.mc_calls.specs.declared.hold.Hold.{Hold}
use Rattle.mc_calls.specs.Code.{last_call_code}
use Rattle.mc_calls.proofs.CodeLemmas.{code_back}
use Rattle.zy_read.specs.Bytes.{AreBytes}
use Rattle.zy_read.specs.Fields.Judged.{Then, Gives, Wrong}
use Rattle.zy_read.specs.FieldReading.{width_of}
use Rattle.zy_read.specs.Runs.{Begins, IsOutcome}
use Rattle.zy_read.proofs.ByteLemmas.{bytes_front}
use Rattle.zy_read.proofs.RunLemmas.{After, runs_keep, byte_parts}
use Rattle.zy_read.proofs.VerdictLemmas.{outcome}
use Rattle.zy_journal.specs.declared.journal.Journal.{Journal}
use Rattle.zy_journal.specs.Journal.{magic, entry_text, hold_text, journal_bytes}
use Rattle.zy_journal_reader.specs.declared.due.Due.{Due}
use Rattle.zy_journal_reader.specs.declared.due.Due.TheVariants.{Byte, Number, Long, Bytes, Nothing}
use Rattle.zy_journal_reader.specs.declared.due.ByteField.{ByteField}
use Rattle.zy_journal_reader.specs.declared.due.ByteField.TheVariants.{Magic, Tag, CallCode, KeyLength, ReplyCode}
use Rattle.zy_journal_reader.specs.declared.due.NumberField.{NumberField}
use Rattle.zy_journal_reader.specs.declared.due.LongField.{LongField}
use Rattle.zy_journal_reader.specs.Steps.{ReadState, Done, journal_start, journal_shape, lawful_byte, lawful_number, lawful_long, after_byte, one, number_byte, long_byte, journal_judged, is_last, journal_fields, journal_limit}
use Rattle.zy_journal_reader.specs.Verdict.{JournalVerdict, good_journal, journal_verdict, journal_in, SpellsJournal}
use Rattle.zy_journal_reader.specs.Verdict.JournalVerdict.{Good, Bad}
use Rattle.zy_journal_reader.specs.Laws.{journal_lawful}
use Rattle.zy_journal_reader.proofs.SoFar.{front, before, Kept, IsReadTo, LeadTo, Leads}
use Rattle.zy_journal_reader.proofs.TestLemmas.{between_true, not_last, chosen, four_is, eight_is, four_small, eight_small, further, one_byte}
use Rattle.zy_journal_reader.proofs.EndLemmas.{Ends, tag_on, code_on, key_length_on, reply_code_on}
use Rattle.zy_journal_reader.proofs.NumberLemmas.{four_on, eight_on}
use Rattle.zy_journal_reader.proofs.ContentLemmas.{content_on}

-- ---- one field

-- a field after the bytes that lead to it
pub ends_on : (due : Due) (p : ReadState) (t text : List ℕ) → text ≡ front p.entries p.holds ++ before due p.draft → IsReadTo due p text → Ends due p t (text ++ t)
ends_on due p t text is read = record { bytes = further text (front p.entries p.holds) (before due p.draft) t is; kept = read.kept; known = read.known }

letters_on : (at byte : ℕ) → at < 8 → byte ≡ slice_index magic at → take at magic ++ byte ∷ [] ≡ take (at + 1) magic
letters_on at byte within is = grind (arith, common_steps)

from_magic : (p : ReadState) (text : List ℕ) (byte : ℕ) → IsReadTo (Byte Magic) p text → lawful_byte Magic p (length text) byte ≡ true → Leads (text ++ byte ∷ []) (after_byte Magic p (length text) byte)
from_magic p text byte read right =
    let at : ℕ = length text in
    let grown : text ++ byte ∷ [] ≡ take (at + 1) magic = ap (λ (l : List ℕ). l ++ byte ∷ []) read.bytes ∙ letters_on at byte read.field.0 (eqb-true byte (slice_index magic at) right) in
    let longer : length (text ++ byte ∷ []) ≡ at + 1 = length-append text (byte ∷ []) in
    let nothing : magic ≡ front p.entries p.holds ++ [] =
    ap (λ (l : List Entry). front l []) (sym read.field.1) ∙ ap (λ (l : List Hold). front p.entries l) (sym read.field.2) ∙ sym (append-nil (front p.entries p.holds)) in
    chosen (Leads (text ++ byte ∷ [])) (at == 7) _ _
    (λ last. record { bytes = grown ∙ ap (λ (n : ℕ). take (n + 1) magic) (eqb-true at 7 last) ∙ nothing; kept = read.kept; field = tt; known = tt })
    (λ more. record { bytes = grown ∙ ap (λ (n : ℕ). take n magic) (sym longer); kept = read.kept; field = (omega (arith, longer, not_last at read.field.0 more), read.field.1, read.field.2); known = tt })

from_byte : (field : ByteField) (p : ReadState) (text : List ℕ) (byte : ℕ) → IsReadTo (Byte field) p text → lawful_byte field p (length text) byte ≡ true → Leads (text ++ byte ∷ []) (after_byte field p (length text) byte)
from_byte Magic p text byte read right = from_magic p text byte read right
from_byte Tag p text byte read right = tag_on p (length text) byte (text ++ byte ∷ []) (ends_on (Byte Tag) p (byte ∷ []) text read.bytes read) right
from_byte CallCode p text byte read right =
    let is = between_true byte 1 last_call_code right in
    code_on p (length text) byte (text ++ byte ∷ []) (code_back byte is.0 is.1) (ends_on (Byte CallCode) p (byte ∷ []) text read.bytes read)
from_byte KeyLength p text byte read right = key_length_on p (length text) byte (text ++ byte ∷ []) (ends_on (Byte KeyLength) p (byte ∷ []) text read.bytes read) right
from_byte ReplyCode p text byte read right = reply_code_on p (length text) byte (text ++ byte ∷ []) (ends_on (Byte ReplyCode) p (byte ∷ []) text read.bytes read) right

from_number : (field : NumberField) (p : ReadState) (text bytes : List ℕ) → AreBytes bytes → length bytes ≡ 4 → IsReadTo (Number field) p text → Leads (text ++ bytes) (number_byte field p (length text) (from_be_bytes w32 bytes))
from_number field p text bytes all size read =
    let n : ℕ = from_be_bytes w32 bytes in
    chosen (Leads (text ++ bytes)) (lawful_number field p n) _ _
    (λ right. four_on field p n (text ++ bytes) (subst (λ (l : List ℕ). Ends (Number field) p l (text ++ bytes)) (sym (four_is bytes size all)) (ends_on (Number field) p bytes text read.bytes read)) (four_small bytes size all) right)
    (λ wrong. tt)

from_long : (field : LongField) (p : ReadState) (text bytes : List ℕ) → AreBytes bytes → length bytes ≡ 8 → IsReadTo (Long field) p text → Leads (text ++ bytes) (long_byte field p (length text) (from_be_bytes w64 bytes))
from_long field p text bytes all size read =
    let n : ℕ = from_be_bytes w64 bytes in
    chosen (Leads (text ++ bytes)) (lawful_long field p n) _ _
    (λ right. eight_on field p n (text ++ bytes) (subst (λ (l : List ℕ). Ends (Long field) p l (text ++ bytes)) (sym (eight_is bytes size all)) (ends_on (Long field) p bytes text read.bytes read)) (eight_small bytes size all) right)
    (λ wrong. tt)

-- ---- a whole text

-- a whole field leads on
keeps : (due : Due) (p : ReadState) (text bytes : List ℕ) → AreBytes bytes → length bytes ≡ width_of (journal_shape due p.draft.size) → IsReadTo due p text → Leads (text ++ bytes) (journal_judged due p (length text) bytes)
keeps (Byte field) p text bytes all size read =
    let byte : ℕ = get_or bytes 0 0 in
    subst (λ (l : List ℕ). Leads (text ++ l) (one field p (length text) byte)) (sym (one_byte bytes size))
    (chosen (Leads (text ++ byte ∷ [])) (lawful_byte field p (length text) byte) _ _ (λ right. from_byte field p text byte read right) (λ wrong. tt))
keeps (Number field) p text bytes all size read = from_number field p text bytes all size read
keeps (Long field) p text bytes all size read = from_long field p text bytes all size read
keeps (Bytes field) p text bytes all size read =
    content_on field p bytes (text ++ bytes) (ends_on (Bytes field) p bytes text read.bytes read) (omega (arith, size, read.field)) (omega (arith, size))
keeps Nothing p text bytes all size read = tt

-- whatever was given
any_given : (text : List ℕ) (given : List ⊤) (done : Done) → Leads text done → After LeadTo text given done
any_given text given (Then next) leads = leads
any_given text given (Gives next item) leads = leads
any_given text given (Wrong fault) leads = tt

nothing_kept : Kept [] [] (record { stamp = 0; shard = 0; conn = 0 })
nothing_kept = record { ordered = tt; entries = tt; fits = tt; rising = tt; holds = tt; stamp_is = refl; shard_is = refl; conn_is = refl; next = λ e after. (tt, tt); next_hold = λ h after. (after, tt) }

-- where the whole fields lead with which a text begins
pub reached : (text : List ℕ) (p : ReadState) (given : List ⊤) (rest : List ℕ) (begins : Begins journal_fields text p given rest) → AreBytes text → IsReadTo p.due p (concat begins.parts)
reached text p given rest begins all =
    runs_keep journal_fields AreBytes LeadTo (λ s before bytes gave each holds size. any_given (before ++ bytes) gave (journal_judged s.due s (length before) bytes) (keeps s.due s before bytes each size holds))
    begins.parts journal_start p [] 0 [] given refl (byte_parts begins.parts (bytes_front (concat begins.parts) rest (subst AreBytes begins.text_is all)))
    (record { bytes = refl; kept = nothing_kept; field = (omega arith, refl, refl); known = tt }) begins.runs

-- ---- the end

pub nothing_is : (due : Due) → is_last due ≡ true → due ≡ Nothing
nothing_is Nothing is = refl
nothing_is due is = cc

-- the whole of a text that was read up to its end
pub whole_bytes : (p : ReadState) (text : List ℕ) → IsReadTo Nothing p text → text ≡ journal_bytes (journal_in p)
unfolding journal_bytes
whole_bytes p text read =
    read.bytes ∙ append_assoc magic (flat_map entry_text p.entries ++ flat_map hold_text p.holds) (69 ∷ []) ∙ ap (λ (l : List ℕ). magic ++ l) (append_assoc (flat_map entry_text p.entries) (flat_map hold_text p.holds) (69 ∷ []))

spells : (p : ReadState) (text : List ℕ) → length text ≤ journal_limit → IsReadTo Nothing p text → SpellsJournal text (journal_in p)
spells p text short read = record {
  readable = record { valid = record { ordered = read.kept.ordered; entries = read.kept.entries; rising = read.kept.rising; holds = read.kept.holds }; fits = read.kept.fits };
  spelled = whole_bytes p text read;
  short = short;
}

good_of : (text : List ℕ) (journal : Journal) (found : JournalVerdict) → AreBytes text → found ≡ Good journal → IsOutcome journal_fields good_journal Bad text found → SpellsJournal text journal
good_of text journal found all is (inl whole) =
    let p : ReadState = whole.0 in
    let begins = whole.1.1.begins in
    let parts : List ℕ = concat begins.parts in
    let same : text ≡ parts = begins.text_is ∙ append-nil parts in
    let read : IsReadTo Nothing p parts = subst (λ (d : Due). IsReadTo d p parts) (nothing_is p.due whole.1.1.end_is) (reached text p whole.1.0 [] begins all) in
    let journal_is : journal_in p ≡ journal = (let said = whole.1.2 in cc) in
    subst (λ (j : Journal). SpellsJournal text j) journal_is (subst (λ (l : List ℕ). SpellsJournal l (journal_in p)) (sym same) (spells p parts begins.short read))
good_of text journal found all is (inr (inl cut)) = let said = cut.1 in cc
good_of text journal found all is (inr (inr has)) = let said = has.1.2 in cc

-- a good text is a spelling
pub good_spells : (text : List ℕ) (journal : Journal) → AreBytes text → journal_verdict text ≡ Good journal → SpellsJournal text journal
good_spells text journal all is = good_of text journal (journal_verdict text) all is (outcome journal_fields journal_lawful good_journal Bad text)
