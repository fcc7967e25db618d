-- A field of a journal that is wrong is a fault of its text.
use Rattle.std.proofs.Common.{◌≡◌, inl, inr, ℕ, zero, suc, ◌+◌, ◌<◌, ◌≤◌, ◌^◌, true, false, List, [], ◌∷◌, ◌++◌}
use Rattle.std.proofs.Common.{length, take, drop, get_or, refl, sym, ◌∙◌, ap, subst, arith, append_assoc}
use Rattle.std.proofs.Common.{length-append}
use Rattle.std.specs.Prelude.{◌==◌, ◌&&◌, ◌||◌, None}
use Rattle.std.specs.List.{slice_index, concat}
use Rattle.std.specs.Int.{to_be_bytes, from_be_bytes, w32, w64}
use Rattle.std.proofs.lemmas.List.{append-nil}
use Rattle.std.proofs.lemmas.Bool.Decides.{nat_tests}
use Rattle.mc_calls.specs.declared.call.Call.{Call}
use Rattle.mc_calls.specs.declared.call.Call.TheVariants as Calls
use Rattle.mc_calls.specs.declared.call_kind.CallKind.{CallKind}
use Rattle.mc_calls.specs.declared.call_reply.CallReply.TheVariants as Replies
use Rattle.mc_calls.specs.declared.entry.Entry.{Entry}
use Rattle.mc_calls.specs.declared.hold.Hold.{Hold}
use Rattle.zy_base.specs.declared.file_fault.FileFault.{FileFault}
use Rattle.zy_base.specs.declared.file_fault.FileFault.TheVariants.{Form}
use Rattle.mc_calls.specs.Call.{key_of}
use Rattle.mc_calls.specs.Code.{code_of, call_of, call_code, call_flags, call_number, call_value, hit_code}
use Rattle.mc_calls.specs.Code.{last_call_code, last_reply_code}
use Rattle.mc_calls.specs.Bounds.{IsKey, IsValue}
use Rattle.mc_calls.specs.Shard.{value_limit}
use Rattle.mc_calls.proofs.CodeLemmas.{call_has}
use Rattle.zy_read.specs.Fields.Judged.{Then, Gives, Wrong}
use Rattle.zy_read.specs.FieldReading.{width_of}
use Rattle.zy_read.specs.Runs.{HasRoom, IsMisjudged}
use Rattle.zy_read.proofs.ByteLemmas.{byte_at, bytes_front, bytes_back}
use Rattle.zy_journal.specs.Journal.{magic, key_text, field_text, fields_text, call_text, entry_head}
use Rattle.zy_journal_reader.specs.declared.draft.Draft.{Draft}
use Rattle.zy_journal_reader.specs.declared.due.Due.{Due}
use Rattle.zy_journal_reader.specs.declared.due.Due.TheVariants.{Byte, Number, Long, Bytes, Nothing}
use Rattle.zy_journal_reader.specs.declared.due.ByteField.{ByteField}
use Rattle.zy_journal_reader.specs.declared.due.ByteField.TheVariants as B
use Rattle.zy_journal_reader.specs.declared.due.NumberField.{NumberField}
use Rattle.zy_journal_reader.specs.declared.due.NumberField.TheVariants as N
use Rattle.zy_journal_reader.specs.declared.due.LongField.{LongField}
use Rattle.zy_journal_reader.specs.declared.due.LongField.TheVariants as L
use Rattle.zy_journal_reader.specs.Steps.{ReadState, Done, journal_shape, lawful_byte, lawful_number, lawful_long}
use Rattle.zy_journal_reader.specs.Steps.{after_byte, after_four, after_eight, after_bytes, one, number_byte}
use Rattle.zy_journal_reader.specs.Steps.{long_byte, journal_judged, is_last, journal_fields, journal_limit}
use Rattle.zy_journal_reader.specs.Verdict.{journal_in, IsReadable}
use Rattle.zy_read.specs.Bytes.{AreBytes}
use Rattle.zy_journal_reader.specs.Last.{last_one}
use Rattle.format_laws.specs.JournalFields.{number_text, range, EntryField, shape_of, before, IsLawfulNumber}
use Rattle.format_laws.specs.JournalFields.{IsLawfulUpTo, HoldField, before_in_hold, IsLawfulInHold, IsHoldUpTo}
use Rattle.format_laws.specs.JournalFields.{EntryField as E, HoldField as H}
use Rattle.format_laws.specs.Faults.{IsWrongForm}
use Rattle.format_laws.specs.JournalFaults.{IsBadJournalMagic, IsWrongJournal}
use Rattle.zy_journal_reader.proofs.CallLemmas.{fields_in, call_in, key_bytes, flags_bytes, number_bytes, call_is}
use Rattle.zy_journal_reader.proofs.SoFar as SoFar
use Rattle.zy_journal_reader.proofs.SoFar.{front, head, Kept, IsReadTo}
use Rattle.zy_journal_reader.proofs.TestLemmas.{chosen, four_is, eight_is, four_small, eight_small, one_byte}
use Rattle.zy_journal_reader.proofs.GoesLemmas.{between, below_is, most_is, stamp_is, shard_is, conn_is}
use Rattle.zy_journal_reader.proofs.SpelledLemmas.{entry_with}
use Rattle.zy_journal_reader.proofs.WholeLemmas.{reached, whole_bytes}
use Rattle.format_laws.proofs.JournalFieldLemmas.{IsRight, byte_right, four_right, eight_right, bytes_right}
use Rattle.format_laws.proofs.JournalLawfulLemmas.{behind_comes, not_below, above_is, not_falling, rises, next_entry}
use Rattle.format_laws.proofs.JournalLawfulLemmas.{plain_entry, field_is, some_there}

-- ---- what a wrong field is

-- the entries and the holds so far are a journal
readable : (p : ReadState) → Kept p.entries p.holds p.past → IsReadable (journal_in p)
readable p kept = record { valid = record { ordered = kept.ordered; entries = kept.entries; rising = kept.rising; holds = kept.holds }; fits = kept.fits }

-- a field after the bytes before it
field_text_is : (f b field number rest text : List ℕ) → text ≡ f ++ b → number ≡ field → text ++ (field ++ rest) ≡ f ++ (b ++ (number ++ rest))
field_text_is f b field number rest text is same =
    ap (λ (l : List ℕ). l ++ (field ++ rest)) is ∙ append_assoc f b (field ++ rest) ∙ ap (λ (l : List ℕ). f ++ (b ++ (l ++ rest))) (sym same)

-- what is known of a number that was read
record IsUnlawful (p : ReadState) (text : List ℕ) (n : ℕ) (field number : List ℕ) (most : ℕ) : Type 0 where
  pub kept : Kept p.entries p.holds p.past
  pub room : length text + length field ≤ journal_limit
  pub whole : number ≡ field
  pub fits : n < most

-- a field of an entry
in_entry : (field : EntryField) (e : Entry) (p : ReadState) (text bytes rest : List ℕ) (n : ℕ) → IsUnlawful p text n bytes (number_text (shape_of field) n) (range (shape_of field)) → p.holds ≡ [] → text ≡ front p.entries p.holds ++ before field e
    → IsLawfulUpTo field (last_one p.entries) e → (IsLawfulNumber field (last_one p.entries) e n → ⊥) → IsWrongJournal (text ++ (bytes ++ rest)) (length text)
in_entry field e p text bytes rest n u none is lawful wrong = inr (inr (inl (record {
  journal = journal_in p;
  no_hold = none;
  field = field;
  entry = e;
  number = n;
  tag_at = length (front p.entries p.holds);
  rest = rest;
  front = record {
    readable = readable p u.kept;
    whole = field_text_is (front p.entries p.holds) (before field e) bytes (number_text (shape_of field) n) rest text is u.whole;
    place = refl;
  };
  lawful = lawful;
  wrong = wrong;
  fits = u.fits;
  place = ap (λ (l : List ℕ). length l) is ∙ length-append (front p.entries p.holds) (before field e);
  within = omega (arith, ap (λ (l : List ℕ). length l) u.whole, u.room);
})))

-- a field of a hold
in_hold : (field : HoldField) (h : Hold) (p : ReadState) (text bytes rest : List ℕ) (n : ℕ) → IsUnlawful p text n bytes (to_be_bytes w32 n) (2 ^ 32) → text ≡ front p.entries p.holds ++ before_in_hold field h
    → IsHoldUpTo field (last_one p.holds) h → (IsLawfulInHold field (last_one p.holds) n → ⊥) → IsWrongJournal (text ++ (bytes ++ rest)) (length text)
in_hold field h p text bytes rest n u is lawful wrong = inr (inr (inr (inl (record {
  journal = journal_in p;
  field = field;
  hold = h;
  number = n;
  tag_at = length (front p.entries p.holds);
  rest = rest;
  front = record {
    readable = readable p u.kept;
    whole = field_text_is (front p.entries p.holds) (before_in_hold field h) bytes (to_be_bytes w32 n) rest text is u.whole;
    place = refl;
  };
  lawful = lawful;
  wrong = wrong;
  fits = u.fits;
  place = ap (λ (l : List ℕ). length l) is ∙ length-append (front p.entries p.holds) (before_in_hold field h);
  within = omega (arith, ap (λ (l : List ℕ). length l) u.whole, u.room);
}))))

-- ---- the magic

-- a byte of the magic and what is behind it
magic_split : (at : ℕ) → at < 8 → magic ≡ take at magic ++ slice_index magic at ∷ drop (at + 1) magic
magic_split zero within = refl
magic_split (suc zero) within = refl
magic_split (suc (suc zero)) within = refl
magic_split (suc (suc (suc zero))) within = refl
magic_split (suc (suc (suc (suc zero)))) within = refl
magic_split (suc (suc (suc (suc (suc zero))))) within = refl
magic_split (suc (suc (suc (suc (suc (suc zero)))))) within = refl
magic_split (suc (suc (suc (suc (suc (suc (suc zero))))))) within = refl
magic_split (suc (suc (suc (suc (suc (suc (suc (suc at)))))))) within = absurd (omega (arith, within))

from_magic : (p : ReadState) (text rest : List ℕ) (byte : ℕ) → IsReadTo (Byte B.Magic) p text → lawful_byte B.Magic p (length text) byte ≡ false → IsBadJournalMagic (text ++ byte ∷ rest) (length text)
from_magic p text rest byte read wrong =
    let at : ℕ = length text in
    record {
      front = take at magic;
      right = slice_index magic at;
      others = drop (at + 1) magic;
      byte = byte;
      rest = rest;
      begins = magic_split at read.field.0;
      whole = ap (λ (l : List ℕ). l ++ byte ∷ rest) read.bytes;
      place = ap (λ (l : List ℕ). length l) read.bytes;
      differs = λ same. grind (arith, nat_tests, same, wrong);
    }

-- ---- fields of one byte

no_entry : (holds : List Hold) (byte : ℕ) → (byte == 69 || byte == 72 || (byte == 74 && length holds == 0)) ≡ false → holds ≡ [] → byte ≡ 74 → ⊥
no_entry holds byte wrong none is = let zero_is : length holds ≡ 0 = ap (λ (l : List Hold). length l) none in grind (arith, nat_tests, wrong, zero_is, is)

from_byte : (field : ByteField) (p : ReadState) (text rest : List ℕ) (byte : ℕ) → byte < 256 → length text + 1 ≤ journal_limit → IsReadTo (Byte field) p text → lawful_byte field p (length text) byte ≡ false → IsWrongJournal (text ++ byte ∷ rest) (length text)
unfolding entry_head
from_byte B.Magic p text rest byte small room read wrong = inl (from_magic p text rest byte read wrong)
from_byte B.Tag p text rest byte small room read wrong =
    let here : text ≡ front p.entries p.holds = read.bytes ∙ append-nil (front p.entries p.holds) in
    inr (inl (record {
      journal = journal_in p;
      byte = byte;
      rest = rest;
      front = record { readable = readable p read.kept; whole = ap (λ (l : List ℕ). l ++ byte ∷ rest) here; place = ap (λ (l : List ℕ). length l) here };
      no_entry = no_entry p.holds byte wrong;
      no_hold = λ is. grind (arith, nat_tests, wrong, is);
      no_end = λ is. grind (arith, nat_tests, wrong, is);
      within = omega (arith, room);
    }))
from_byte B.CallCode p text rest byte small room read wrong =
    let d : Draft = p.draft in
    let e : Entry = entry_with d Calls.Flush Replies.Miss in
    in_entry E.CallCode e p text (byte ∷ []) rest byte (record { kept = read.kept; room = room; whole = refl; fits = small }) read.known.0.0.0.0.0 (read.bytes)
    (plain_entry p d read.kept read.known, tt)
    (λ lawful. let yes = between byte 1 last_call_code lawful.0 lawful.1 in cc)
from_byte B.KeyLength p text rest byte small room read wrong =
    let d : Draft = p.draft in
    let call : Call = call_of d.kind (0 ∷ []) 0 0 [] in
    let has = call_has d.kind (0 ∷ []) 0 0 [] in
    let e : Entry = entry_with d call Replies.Miss in
    let call_ok = call_is (record d { key = 0 ∷ []; flags = 0; number = 0; value = [] }) (field_is IsKey (fields_in d).key (0 ∷ []) (omega arith, omega arith)) (field_is (λ n. n < 2 ^ 32) (fields_in d).flags 0 (omega arith))
    (field_is (λ n. n < 2 ^ 64) (fields_in d).number 0 (omega arith)) (field_is IsValue (fields_in d).value [] (omega arith)) in
    let before_is : SoFar.before (Byte B.KeyLength) d ≡ before E.KeyLength e = ap (λ (k : CallKind). head d ++ code_of k ∷ []) (sym has.kind_is) in
    in_entry E.KeyLength e p text (byte ∷ []) rest byte (record { kept = read.kept; room = room; whole = refl; fits = small }) read.known.0.0.0.0.0.0 (read.bytes ∙ ap (λ (l : List ℕ). front p.entries p.holds ++ l) before_is)
    (next_entry p d call Replies.Miss read.kept read.known.0 call_ok.within call_ok.fits tt ((tt, tt), tt), some_there (key_of call) (fields_in d).key (0 ∷ []) has.key_is read.known.1)
    (λ lawful. let yes = between byte 1 250 lawful.0 lawful.1 in cc)
from_byte B.ReplyCode p text rest byte small room read wrong =
    let d : Draft = p.draft in
    let e : Entry = entry_with d (call_in d) Replies.Miss in
    in_entry E.ReplyCode e p text (byte ∷ []) rest byte (record { kept = read.kept; room = room; whole = refl; fits = small }) read.known.0.0.0.0.0.0 (read.bytes)
    (next_entry p d (call_in d) Replies.Miss read.kept read.known.0 read.known.1 read.known.2 tt ((tt, tt), tt), tt)
    (λ lawful. let yes = between byte 1 last_reply_code lawful.0 lawful.1 in cc)

-- ---- numbers of four bytes

-- the bytes of a call before its value
to_value_is : (d : Draft) → SoFar.before (Number N.ValueLength) d ≡ before E.ValueLength (entry_with d (call_of d.kind d.key d.flags d.number []) Replies.Miss)
unfolding entry_head
to_value_is d =
    let has = call_has d.kind d.key d.flags d.number [] in
    let call : Call = call_of d.kind d.key d.flags d.number [] in
    let spelled_as : call_code call ∷ (field_text key_text (key_of call) ++ fields_text (call_flags call) (call_number call) None) ≡ code_of d.kind ∷ (key_bytes d ++ (flags_bytes d ++ (number_bytes d ++ []))) =
    rw (has.kind_is, has.key_is, has.flags_are, has.number_is) refl in
    ap (λ (l : List ℕ). head d ++ l) (ap (λ (l : List ℕ). code_of d.kind ∷ (key_bytes d ++ (flags_bytes d ++ l))) (sym (append-nil (number_bytes d))) ∙ sym spelled_as)

-- the bytes of a hit before its value
to_found_is : (d : Draft) → SoFar.before (Number N.FoundLength) d ≡ before E.FoundLength (entry_with d (call_in d) (Replies.Hit d.found_flags d.found_unique []))
unfolding entry_head
to_found_is d = ap (λ (l : List ℕ). head d ++ (call_text (call_in d) ++ hit_code ∷ (to_be_bytes w32 d.found_flags ++ l))) (sym (append-nil (to_be_bytes w64 d.found_unique)))

from_four : (field : NumberField) (p : ReadState) (text bytes rest : List ℕ) (n : ℕ) → text ≡ front p.entries p.holds ++ SoFar.before (Number field) p.draft → SoFar.Known (Number field) p.past p.draft p.holds → IsUnlawful p text n bytes (to_be_bytes w32 n) (2 ^ 32) → lawful_number field p n ≡ false
    → IsWrongJournal (text ++ (bytes ++ rest)) (length text)
unfolding entry_head
from_four N.Shard p text bytes rest n is known u wrong =
    let d : Draft = p.draft in
    in_entry E.Shard (entry_with d Calls.Flush Replies.Miss) p text bytes rest n u known.0 is
    (known.1, known.2, above_is (last_one p.entries) p.past.stamp d.stamp u.kept.stamp_is known.3)
    (λ lawful. let yes = shard_is n p.past.shard d.stamp p.past.stamp lawful.0 (behind_comes (last_one p.entries) p.past (record (entry_with d Calls.Flush Replies.Miss) { shard = n }) u.kept.stamp_is u.kept.shard_is known.1 lawful.1) in cc)
from_four N.Connection p text bytes rest n is known u wrong =
    let d : Draft = record p.draft { conn = 0; index = 0; part = 0 } in
    in_entry E.Connection (entry_with d Calls.Flush Replies.Miss) p text bytes rest n u known.0.0 is
    (plain_entry p d u.kept (((known, omega arith), omega arith), omega arith), tt)
    (λ lawful. let yes = below_is n 4096 lawful in cc)
from_four N.Part p text bytes rest n is known u wrong = cc
from_four N.Flags p text bytes rest n is known u wrong = cc
from_four N.ValueLength p text bytes rest n is known u wrong =
    let d : Draft = p.draft in
    let call : Call = call_of d.kind d.key d.flags d.number [] in
    let has = call_has d.kind d.key d.flags d.number [] in
    let e : Entry = entry_with d call Replies.Miss in
    let call_ok = call_is (record d { value = [] }) known.1 known.2 known.3 (field_is IsValue (fields_in d).value [] (omega arith)) in
    in_entry E.ValueLength e p text bytes rest n u known.0.0.0.0.0.0
    (is ∙ ap (λ (l : List ℕ). front p.entries p.holds ++ l) (to_value_is d))
    (next_entry p d call Replies.Miss u.kept known.0 call_ok.within call_ok.fits tt ((tt, tt), tt), some_there (call_value call) (fields_in d).value [] has.value_is known.4)
    (λ lawful. let yes = most_is n value_limit lawful in cc)
from_four N.FoundFlags p text bytes rest n is known u wrong = cc
from_four N.FoundLength p text bytes rest n is known u wrong =
    let d : Draft = p.draft in
    let e : Entry = entry_with d (call_in d) (Replies.Hit d.found_flags d.found_unique []) in
    in_entry E.FoundLength e p text bytes rest n u known.0.0.0.0.0.0.0
    (is ∙ ap (λ (l : List ℕ). front p.entries p.holds ++ l) (to_found_is d))
    (next_entry p d (call_in d) (Replies.Hit d.found_flags d.found_unique []) u.kept known.0.0 known.0.1 known.0.2 (omega arith) ((known.1, known.2), tt), refl)
    (λ lawful. let yes = most_is n value_limit lawful in cc)
from_four N.HoldConnection p text bytes rest n is known u wrong =
    in_hold H.OfConnection (record { core = 0; conn = 0; count = 0 }) p text bytes rest n u is tt
    (λ lawful. let yes = conn_is n p.past.conn (not_falling (last_one p.holds) p.past.conn n u.kept.conn_is lawful.1) lawful.0 in cc)
from_four N.HoldCore p text bytes rest n is known u wrong =
    in_hold H.OfCore (record { core = 0; conn = p.draft.conn; count = 0 }) p text bytes rest n u is
    (known.1, rises (last_one p.holds) p.past.conn p.draft.conn u.kept.conn_is known.0)
    (λ lawful. let yes = below_is n 64 lawful in cc)
from_four N.HoldCount p text bytes rest n is known u wrong =
    in_hold H.OfCount (record { core = p.draft.core; conn = p.draft.conn; count = 0 }) p text bytes rest n u is
    ((known.1, rises (last_one p.holds) p.past.conn p.draft.conn u.kept.conn_is known.0), known.2)
    (λ lawful. let yes = between n 1 64 lawful.0 lawful.1 in cc)

-- ---- numbers of eight bytes

from_eight : (field : LongField) (p : ReadState) (text bytes rest : List ℕ) (n : ℕ) → text ≡ front p.entries p.holds ++ SoFar.before (Long field) p.draft → SoFar.Known (Long field) p.past p.draft p.holds → IsUnlawful p text n bytes (to_be_bytes w64 n) (2 ^ 64) → lawful_long field p n ≡ false
    → IsWrongJournal (text ++ (bytes ++ rest)) (length text)
from_eight L.Stamp p text bytes rest n is known u wrong =
    in_entry E.Stamp (entry_with p.draft Calls.Flush Replies.Miss) p text bytes rest n u known is tt
    (λ lawful. let yes = stamp_is n p.past.stamp lawful.0 lawful.1 (not_below (last_one p.entries) p.past.stamp n u.kept.stamp_is lawful.2) in cc)
from_eight L.Index p text bytes rest n is known u wrong =
    let d : Draft = record p.draft { index = 0; part = 0 } in
    in_entry E.Command (entry_with d Calls.Flush Replies.Miss) p text bytes rest n u known.0.0.0 is
    (plain_entry p d u.kept ((known, omega arith), omega arith), tt)
    (λ lawful. let yes = below_is n (2 ^ 40) lawful in cc)
from_eight field p text bytes rest n is known u wrong = cc

-- ---- a wrong field

-- the field is wrong at its place, and the text has that fault
abbrev IsFaulty : List ℕ → List ℕ → List ℕ → FileFault → Done → Type 0
IsFaulty text bytes rest fault done = done ≡ Wrong fault → (fault ≡ Form (length text)) × IsWrongJournal (text ++ (bytes ++ rest)) (length text)

not_wrong : (done : Done) (fault : FileFault) → IsRight done → done ≡ Wrong fault → ⊥
not_wrong (Wrong found) fault right is = right
not_wrong (Then next) fault right is = cc
not_wrong (Gives next item) fault right is = cc

said : (text bytes rest : List ℕ) (fault : FileFault) → IsWrongJournal (text ++ (bytes ++ rest)) (length text) → IsFaulty text bytes rest fault (Wrong (Form (length text)))
said text bytes rest fault wrong is = let same : fault ≡ Form (length text) = cc in (same, wrong)

one_faulty : (field : ByteField) (p : ReadState) (text rest : List ℕ) (byte : ℕ) (fault : FileFault) → byte < 256 → length text + 1 ≤ journal_limit → IsReadTo (Byte field) p text → IsFaulty text (byte ∷ []) rest fault (one field p (length text) byte)
one_faulty field p text rest byte fault small room read =
    chosen (IsFaulty text (byte ∷ []) rest fault) (lawful_byte field p (length text) byte) _ _
    (λ right is. absurd (not_wrong (after_byte field p (length text) byte) fault (byte_right field p (length text) byte) is))
    (λ wrong. said text (byte ∷ []) rest fault (from_byte field p text rest byte small room read wrong))

four_faulty : (field : NumberField) (p : ReadState) (text bytes rest : List ℕ) (fault : FileFault) → AreBytes bytes → length bytes ≡ 4 → length text + length bytes ≤ journal_limit → IsReadTo (Number field) p text → IsFaulty text bytes rest fault (number_byte field p (length text) (from_be_bytes w32 bytes))
four_faulty field p text bytes rest fault all size room read =
    let n : ℕ = from_be_bytes w32 bytes in
    chosen (IsFaulty text bytes rest fault) (lawful_number field p n) _ _
    (λ right is. absurd (not_wrong (after_four field p n) fault (four_right field p n) is))
    (λ wrong. said text bytes rest fault (from_four field p text bytes rest n read.bytes read.known (record { kept = read.kept; room = room; whole = four_is bytes size all; fits = four_small bytes size all }) wrong))

eight_faulty : (field : LongField) (p : ReadState) (text bytes rest : List ℕ) (fault : FileFault) → AreBytes bytes → length bytes ≡ 8 → length text + length bytes ≤ journal_limit → IsReadTo (Long field) p text → IsFaulty text bytes rest fault (long_byte field p (length text) (from_be_bytes w64 bytes))
eight_faulty field p text bytes rest fault all size room read =
    let n : ℕ = from_be_bytes w64 bytes in
    chosen (IsFaulty text bytes rest fault) (lawful_long field p n) _ _
    (λ right is. absurd (not_wrong (after_eight field p n) fault (eight_right field p n) is))
    (λ wrong. said text bytes rest fault (from_eight field p text bytes rest n read.bytes read.known (record { kept = read.kept; room = room; whole = eight_is bytes size all; fits = eight_small bytes size all }) wrong))

-- a byte after the end
trailing : (p : ReadState) (text bytes rest : List ℕ) → length bytes ≡ 1 → length text ≤ journal_limit → IsReadTo Nothing p text → IsWrongJournal (text ++ (bytes ++ rest)) (length text)
trailing p text bytes rest size short read =
    inr (inr (inr (inr (record {
      journal = journal_in p;
      byte = get_or bytes 0 0;
      rest = rest;
      readable = readable p read.kept;
      whole = ap (λ (l : List ℕ). text ++ (l ++ rest)) (one_byte bytes size) ∙ ap (λ (l : List ℕ). l ++ get_or bytes 0 0 ∷ rest) (whole_bytes p text read);
      place = ap (λ (l : List ℕ). length l) (whole_bytes p text read);
      within = short;
    }))))

-- there is room for a field that is not behind the end
room_there : (due : Due) (p : ReadState) (count : ℕ) → p.due ≡ due → is_last due ≡ false → HasRoom journal_fields p count → count ≤ journal_limit
room_there due p count is open_still (inl end_is) = absurd (let ended : is_last due ≡ true = subst (λ (d : Due). is_last d ≡ true) is end_is in cc)
room_there due p count is open_still (inr few) = few

faulty : (due : Due) (p : ReadState) (text bytes rest : List ℕ) (fault : FileFault) → p.due ≡ due → AreBytes bytes → length bytes ≡ width_of (journal_shape due p.draft.size) → length text ≤ journal_limit → HasRoom journal_fields p (length text + length bytes) → IsReadTo due p text
    → IsFaulty text bytes rest fault (journal_judged due p (length text) bytes)
faulty (Byte field) p text bytes rest fault is all size short room read =
    let byte : ℕ = get_or bytes 0 0 in
    subst (λ (l : List ℕ). IsFaulty text l rest fault (one field p (length text) byte)) (sym (one_byte bytes size))
    (one_faulty field p text rest byte fault (byte_at bytes all 0) (omega (arith, size, room_there (Byte field) p (length text + length bytes) is refl room)) read)
faulty (Number field) p text bytes rest fault is all size short room read = four_faulty field p text bytes rest fault all size (room_there (Number field) p (length text + length bytes) is refl room) read
faulty (Long field) p text bytes rest fault is all size short room read = eight_faulty field p text bytes rest fault all size (room_there (Long field) p (length text + length bytes) is refl room) read
faulty (Bytes field) p text bytes rest fault is all size short room read = λ wrong. absurd (not_wrong (after_bytes field p bytes) fault (bytes_right field p bytes) wrong)
faulty Nothing p text bytes rest fault is all size short room read = said text bytes rest fault (trailing p text bytes rest size short read)

-- a text with a wrong field has the fault that says so
pub misjudged_wrong : (text : List ℕ) (p : ReadState) (fault : FileFault) → AreBytes text → IsMisjudged journal_fields text p fault → IsWrongForm IsWrongJournal text fault
misjudged_wrong text p fault all has =
    let before_it : List ℕ = concat has.begins.parts in
    let each : AreBytes (before_it ++ (has.field ++ has.rest)) = subst AreBytes has.begins.text_is all in
    let of_field : AreBytes has.field = bytes_front has.field has.rest (bytes_back before_it (has.field ++ has.rest) each) in
    let two = faulty p.due p before_it has.field has.rest fault refl of_field has.size has.begins.short has.room (reached text p has.given (has.field ++ has.rest) has.begins all) has.wrong in
    subst (IsWrongForm IsWrongJournal text) (sym two.0) (subst (λ (l : List ℕ). IsWrongJournal l (length before_it)) (sym has.begins.text_is) two.1)
