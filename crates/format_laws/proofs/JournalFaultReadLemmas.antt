-- A text that has a fault is bad with it, as a journal.
use Rattle.std.proofs.Common.{◌≡◌, inl, inr, ℕ, zero, suc, ◌+◌, ◌<◌, ◌≤◌, ◌^◌, Bool, true, false, List, [], ◌∷◌, ◌++◌}
use Rattle.std.proofs.Common.{length, take, refl, sym, ◌∙◌, ap, arith, append_assoc, length-append}
use Rattle.std.specs.Prelude.{◌==◌, ◌&&◌, ◌||◌, nat_lt, nat_le, Option, None, Some}
use Rattle.std.specs.List.{slice_index}
use Rattle.std.specs.Int.{to_be_bytes, w32}
use Rattle.std.proofs.lemmas.List.{take_at}
use Rattle.std.proofs.lemmas.Bool.{eqb-true}
use Rattle.std.proofs.lemmas.Bool.Decides.{nat_tests}
use Rattle.mc_calls.specs.declared.entry.Entry.{Entry}
use Rattle.mc_calls.specs.declared.hold.Hold.{Hold}
use Rattle.zy_base.specs.declared.file_fault.FileFault.{FileFault}
use Rattle.zy_base.specs.declared.file_fault.FileFault.TheVariants.{Form}
use Rattle.mc_calls.specs.Code.{call_code, last_call_code, last_reply_code}
use Rattle.mc_calls.specs.Shard.{value_limit}
use Rattle.zy_read.specs.Fields.Judged.{Wrong}
use Rattle.zy_read.specs.FieldReading.{width_of}
use Rattle.zy_read.proofs.OverLemmas.{over_join}
use Rattle.format_laws.proofs.VerdictLemmas.{over_misjudged, fault_bad}
use Rattle.zy_journal.specs.declared.journal.Journal.{Journal}
use Rattle.zy_journal.specs.Journal.{magic, call_text, journal_bytes}
use Rattle.zy_journal_reader.specs.declared.due.Due.{Due}
use Rattle.zy_journal_reader.specs.declared.due.Due.TheVariants.{Byte, Number, Long}
use Rattle.zy_journal_reader.specs.Fields.{fresh}
use Rattle.zy_journal_reader.specs.declared.due.ByteField.TheVariants as B
use Rattle.zy_journal_reader.specs.declared.due.NumberField.TheVariants as N
use Rattle.zy_journal_reader.specs.declared.due.LongField.TheVariants as L
use Rattle.zy_journal_reader.specs.Steps.{ReadState, journal_start, journal_shape, journal_judged, journal_fields}
use Rattle.zy_journal_reader.specs.Steps.{journal_limit}
use Rattle.zy_journal_reader.specs.Verdict.{good_journal, journal_verdict, IsReadable, journal_front}
use Rattle.zy_journal_reader.specs.Verdict.JournalVerdict.{Bad}
use Rattle.zy_journal_reader.specs.Laws.{journal_lawful}
use Rattle.zy_journal_reader.specs.Last.{last_after, last_one}
use Rattle.format_laws.specs.JournalFields.{number_text, range, EntryField, shape_of, before, IsLawfulNumber}
use Rattle.format_laws.specs.JournalFields.{IsLawfulUpTo, HoldField, before_in_hold, IsLawfulInHold, IsHoldUpTo}
use Rattle.format_laws.specs.JournalFields.{EntryField as E, HoldField as H}
use Rattle.format_laws.specs.Faults.{IsWrongForm}
use Rattle.format_laws.specs.JournalFaults.{IsBadJournalMagic, IsBadJournalTag, IsBadEntry, IsBadHold, FollowsJournal}
use Rattle.format_laws.specs.JournalFaults.{IsWrongJournal}
use Rattle.zy_journal_reader.specs.Found.{and_entry, and_hold}
use Rattle.zy_journal_reader.proofs.SoFar.{stamp_of, shard_of, conn_of, ComesAfter}
use Rattle.zy_journal_reader.proofs.PlaceLemmas.{Over, place, Goes, both, stays, one_byte, four_bytes}
use Rattle.format_laws.proofs.JournalFieldLemmas.{one_wrong, four_wrong, eight_wrong}
use Rattle.zy_journal_reader.proofs.GoesLemmas.{below_is, conn_is}
use Rattle.zy_journal_reader.proofs.SpelledLemmas.{with_entries, entries_keep, holds_read, entries_past, with_holds}
use Rattle.zy_journal_reader.proofs.SpelledLemmas.{head_of, head_goes, after_records, front_over, at_end, whole_over}
use Rattle.zy_journal_reader.proofs.TestLemmas.{between_true, below_true, most_true, stamp_true, shard_true}
use Rattle.zy_journal_reader.proofs.TestLemmas.{conn_true, no_items}
use Rattle.format_laws.proofs.JournalLawfulLemmas.{comes_behind, behind_comes, not_below, above_is, not_falling}
use Rattle.format_laws.proofs.JournalLawfulLemmas.{rises}
use Rattle.format_laws.proofs.JournalLeadsLemmas.{Leads, tag_goes, shard_goes, connection_goes, command_goes}
use Rattle.format_laws.proofs.JournalLeadsLemmas.{to_value, to_found, after_code, before_value, before_reply}
use Rattle.format_laws.proofs.JournalLeadsLemmas.{before_found, after_head}

-- ---- a field that is refused

-- after these bytes of a record there is a field that is wrong
record IsRefused (q : ReadState) (text field : List ℕ) : Type 0 where
  pub due : Due
  pub leads : Leads q fresh (Byte B.Tag) text due
  pub size : length field ≡ width_of (journal_shape due leads.draft.size)
  pub wrong : (at : ℕ) → journal_judged due (place q leads.draft due) at field ≡ Wrong (Form at)

-- the same after the records of a journal
refused_bad : (text : List ℕ) (journal : Journal) (at : ℕ) (record_text field rest : List ℕ) → IsReadable journal → text ≡ journal_front journal ++ (record_text ++ (field ++ rest)) → at ≡ length (journal_front journal) + length record_text → at + length field ≤ journal_limit
    → IsRefused (after_records journal) record_text field → journal_verdict text ≡ Bad (Form at)
refused_bad text journal at record_text field rest readable whole place_is room refused =
    let x : List ℕ = journal_front journal ++ record_text in
    let q : ReadState = after_records journal in
    let s : ReadState = place q refused.leads.draft refused.due in
    let sizes : length x ≡ at = length-append (journal_front journal) record_text ∙ sym place_is in
    let over : Over journal_start 0 x s [] = over_join journal_fields journal_start (place q fresh (Byte B.Tag)) s 0 (journal_front journal) record_text [] [] (front_over journal readable) (refused.leads.there_goes.over (0 + length (journal_front journal))) in
    let same : text ≡ x ++ (field ++ rest) = whole ∙ sym (append_assoc (journal_front journal) record_text (field ++ rest)) in
    fault_bad journal_fields journal_lawful good_journal Bad text s (Form at)
    (inl (over_misjudged journal_fields text s (Form at) x field rest [] over (omega (arith, sizes, room)) same refused.size (inr (omega (arith, sizes, room)))
    (refused.wrong (length x) ∙ ap (λ (n : ℕ). Wrong (Form n)) sizes)))

-- ---- the records before

-- what is kept of them
entries_stamp : (es : List Entry) (p : ReadState) (last : Option Entry) → p.past.stamp ≡ stamp_of last → (with_entries p es).past.stamp ≡ stamp_of (last_after last es)
entries_stamp [] p last is = is
entries_stamp (e ∷ es) p last is = entries_stamp es (and_entry p e) (Some e) refl

entries_shard : (es : List Entry) (p : ReadState) (last : Option Entry) → p.past.shard ≡ shard_of last → (with_entries p es).past.shard ≡ shard_of (last_after last es)
entries_shard [] p last is = is
entries_shard (e ∷ es) p last is = entries_shard es (and_entry p e) (Some e) refl

holds_conn : (hs : List Hold) (p : ReadState) (last : Option Hold) → p.past.conn ≡ conn_of last → (with_holds p hs).past.conn ≡ conn_of (last_after last hs)
holds_conn [] p last is = is
holds_conn (h ∷ hs) p last is = holds_conn hs (and_hold p h) (Some h) refl

holds_stamp : (hs : List Hold) (p : ReadState) → (with_holds p hs).past.stamp ≡ p.past.stamp
holds_stamp [] p = refl
holds_stamp (h ∷ hs) p = holds_stamp hs (and_hold p h)

holds_shard : (hs : List Hold) (p : ReadState) → (with_holds p hs).past.shard ≡ p.past.shard
holds_shard [] p = refl
holds_shard (h ∷ hs) p = holds_shard hs (and_hold p h)

stamp_after : (journal : Journal) → (after_records journal).past.stamp ≡ stamp_of (last_one journal.entries)
stamp_after journal = holds_stamp journal.holds (with_entries journal_start journal.entries) ∙ entries_stamp journal.entries journal_start None refl

shard_after : (journal : Journal) → (after_records journal).past.shard ≡ shard_of (last_one journal.entries)
shard_after journal = holds_shard journal.holds (with_entries journal_start journal.entries) ∙ entries_shard journal.entries journal_start None refl

conn_after : (journal : Journal) → (after_records journal).past.conn ≡ conn_of (last_one journal.holds)
conn_after journal = holds_conn journal.holds (with_entries journal_start journal.entries) None (entries_past journal.entries journal_start)

no_holds : (journal : Journal) → journal.holds ≡ [] → (after_records journal).holds ≡ []
no_holds journal none = ap (λ (hs : List Hold). (with_holds (with_entries journal_start journal.entries) hs).holds) none ∙ entries_keep journal.entries journal_start

-- ---- the fields of an entry

-- a test that does not hold
false_of : (test : Bool) → (test ≡ true → ⊥) → test ≡ false
false_of true never = absurd (never refl)
false_of false never = refl

-- a refusal after bytes that lead to a field
refused_by : {q : ReadState} {due : Due} {text field : List ℕ} (leads : Leads q fresh (Byte B.Tag) text due) → length field ≡ width_of (journal_shape due leads.draft.size) → ((at : ℕ) → journal_judged due (place q leads.draft due) at field ≡ Wrong (Form at)) → IsRefused q text field
refused_by {q} {due} leads size wrong = record { due = due; leads = leads; size = size; wrong = wrong }

entry_refused : (field : EntryField) (q : ReadState) (last : Option Entry) (e : Entry) (n : ℕ) → q.holds ≡ [] → q.past.stamp ≡ stamp_of last → q.past.shard ≡ shard_of last → IsLawfulUpTo field last e → (IsLawfulNumber field last e n → ⊥) → n < range (shape_of field)
    → IsRefused q (before field e) (number_text (shape_of field) n)
entry_refused E.Stamp q last e n none stamp shard known wrong fits =
    refused_by (record { draft = fresh; there_goes = tag_goes q none }) refl
    (λ at. eight_wrong q fresh L.Stamp n at fits (false_of (nat_le 1 n && nat_lt n (2 ^ 60) && nat_le q.past.stamp n) (λ yes. let is = stamp_true n q.past.stamp yes in wrong (is.0, is.1, above_is last q.past.stamp n stamp is.2))))
entry_refused E.Shard q last e n none stamp shard known wrong fits =
    let above : q.past.stamp ≤ e.stamp = not_below last q.past.stamp e.stamp stamp known.2 in
    refused_by (record { draft = record fresh { stamp = e.stamp }; there_goes = shard_goes q e none known.0 known.1 above }) refl
    (λ at. four_wrong q (record fresh { stamp = e.stamp }) N.Shard n at fits (false_of (nat_lt n 256 && (nat_lt q.past.stamp e.stamp || nat_lt q.past.shard n)) (λ yes. let is = shard_true n q.past.shard e.stamp q.past.stamp yes above in wrong (is.0, comes_behind last q.past (record e { shard = n }) stamp shard is.1))))
entry_refused E.Connection q last e n none stamp shard known wrong fits =
    let comes : ComesAfter q.past e = behind_comes last q.past e stamp shard known.0.valid.some_stamp known.0.comes in
    let leads : Leads q fresh (Byte B.Tag) (before E.Connection e) (Number N.Connection) = record { draft = record fresh { stamp = e.stamp; shard = e.shard }; there_goes = connection_goes q e none known.0.valid comes } in
    refused_by leads refl
    (λ at. four_wrong q leads.draft N.Connection n at fits (false_of (nat_lt n 4096) (λ yes. wrong (below_true n 4096 yes))))
entry_refused E.Command q last e n none stamp shard known wrong fits =
    let comes : ComesAfter q.past e = behind_comes last q.past e stamp shard known.0.valid.some_stamp known.0.comes in
    let leads : Leads q fresh (Byte B.Tag) (before E.Command e) (Long L.Index) = record { draft = record fresh { stamp = e.stamp; shard = e.shard; conn = e.tag.conn }; there_goes = command_goes q e none known.0.valid comes } in
    refused_by leads refl
    (λ at. eight_wrong q leads.draft L.Index n at fits (false_of (nat_lt n (2 ^ 40)) (λ yes. wrong (below_true n (2 ^ 40) yes))))
entry_refused E.CallCode q last e n none stamp shard known wrong fits =
    let comes : ComesAfter q.past e = behind_comes last q.past e stamp shard known.0.valid.some_stamp known.0.comes in
    let leads : Leads q fresh (Byte B.Tag) (before E.CallCode e) (Byte B.CallCode) = record { draft = head_of e; there_goes = head_goes q e none known.0.valid known.0.fits comes } in
    refused_by leads refl
    (λ at. one_wrong q leads.draft B.CallCode n at (false_of (nat_le 1 n && nat_le n last_call_code) (λ yes. wrong (between_true n 1 last_call_code yes))))
entry_refused E.KeyLength q last e n none stamp shard known wrong fits =
    let comes : ComesAfter q.past e = behind_comes last q.past e stamp shard known.0.valid.some_stamp known.0.comes in
    let leads : Leads q fresh (Byte B.Tag) (before E.KeyLength e) (Byte B.KeyLength) = after_head e (call_code e.call ∷ []) none known.0.valid known.0.fits comes (after_code q (head_of e) e.call known.1) in
    refused_by leads refl
    (λ at. one_wrong q leads.draft B.KeyLength n at (false_of (nat_le 1 n && nat_le n 250) (λ yes. wrong (between_true n 1 250 yes))))
entry_refused E.ValueLength q last e n none stamp shard known wrong fits =
    let comes : ComesAfter q.past e = behind_comes last q.past e stamp shard known.0.valid.some_stamp known.0.comes in
    let leads : Leads q fresh (Byte B.Tag) (before E.ValueLength e) (Number N.ValueLength) = after_head e (to_value e.call) none known.0.valid known.0.fits comes (before_value q (head_of e) e.call known.0.valid.call known.0.fits.call known.1) in
    refused_by leads refl
    (λ at. four_wrong q leads.draft N.ValueLength n at fits (false_of (nat_le n value_limit) (λ yes. wrong (most_true n value_limit yes))))
entry_refused E.ReplyCode q last e n none stamp shard known wrong fits =
    let comes : ComesAfter q.past e = behind_comes last q.past e stamp shard known.0.valid.some_stamp known.0.comes in
    let leads : Leads q fresh (Byte B.Tag) (before E.ReplyCode e) (Byte B.ReplyCode) = after_head e (call_text e.call) none known.0.valid known.0.fits comes (before_reply q (head_of e) e.call known.0.valid.call known.0.fits.call) in
    refused_by leads refl
    (λ at. one_wrong q leads.draft B.ReplyCode n at (false_of (nat_le 1 n && nat_le n last_reply_code) (λ yes. wrong (between_true n 1 last_reply_code yes))))
entry_refused E.FoundLength q last e n none stamp shard known wrong fits =
    let comes : ComesAfter q.past e = behind_comes last q.past e stamp shard known.0.valid.some_stamp known.0.comes in
    let call = before_reply q (head_of e) e.call known.0.valid.call known.0.fits.call in
    let reply = before_found q call.draft e.reply known.0.fits.reply known.1 in
    let leads : Leads q fresh (Byte B.Tag) (before E.FoundLength e) (Number N.FoundLength) =
    after_head e (call_text e.call ++ to_found e.reply) none known.0.valid known.0.fits comes (record { draft = reply.draft; there_goes = both (call_text e.call) (to_found e.reply) call.there_goes reply.there_goes }) in
    refused_by leads refl
    (λ at. four_wrong q leads.draft N.FoundLength n at fits (false_of (nat_le n value_limit) (λ yes. wrong (most_true n value_limit yes))))

entry_bad : (text : List ℕ) (at : ℕ) → IsBadEntry text at → journal_verdict text ≡ Bad (Form at)
entry_bad text at has =
    refused_bad text has.journal at (before has.field has.entry) (number_text (shape_of has.field) has.number) has.rest has.front.readable has.front.whole (has.place ∙ ap (λ (n : ℕ). n + length (before has.field has.entry)) has.front.place) has.within
    (entry_refused has.field (after_records has.journal) (last_one has.journal.entries) has.entry has.number (no_holds has.journal has.no_hold) (stamp_after has.journal) (shard_after has.journal) has.lawful has.wrong has.fits)

-- ---- the fields of a hold

hold_tag : (q : ReadState) → Goes q fresh (Byte B.Tag) (72 ∷ []) q fresh (Number N.HoldConnection)
hold_tag q = one_byte q q fresh fresh B.Tag (Number N.HoldConnection) 72 (λ at. refl) (λ at. refl)

core_goes : (q : ReadState) (h : Hold) → q.past.conn ≤ h.conn → h.conn < 4096 → Goes q fresh (Byte B.Tag) (before_in_hold H.OfCore h) q (record fresh { conn = h.conn }) (Number N.HoldCore)
core_goes q h above few =
    both (72 ∷ []) (to_be_bytes w32 h.conn) (hold_tag q)
    (four_bytes q q fresh (record fresh { conn = h.conn }) N.HoldConnection (Number N.HoldCore) h.conn (omega (arith, few)) (conn_is h.conn q.past.conn above few) refl)

count_goes : (q : ReadState) (h : Hold) → q.past.conn ≤ h.conn → h.conn < 4096 → h.core < 64 → Goes q fresh (Byte B.Tag) (before_in_hold H.OfCount h) q (record fresh { conn = h.conn; core = h.core }) (Number N.HoldCount)
count_goes q h above few low =
    both (before_in_hold H.OfCore h) (to_be_bytes w32 h.core) (core_goes q h above few)
    (four_bytes q q (record fresh { conn = h.conn }) (record fresh { conn = h.conn; core = h.core }) N.HoldCore (Number N.HoldCount) h.core (omega (arith, low)) (below_is h.core 64 low) refl)

hold_refused : (field : HoldField) (q : ReadState) (last : Option Hold) (h : Hold) (n : ℕ) → q.past.conn ≡ conn_of last → IsHoldUpTo field last h → (IsLawfulInHold field last n → ⊥) → n < 2 ^ 32
    → IsRefused q (before_in_hold field h) (to_be_bytes w32 n)
hold_refused H.OfConnection q last h n conn known wrong fits =
    refused_by (record { draft = fresh; there_goes = hold_tag q }) refl
    (λ at. four_wrong q fresh N.HoldConnection n at fits (false_of (nat_le q.past.conn n && nat_lt n 4096) (λ yes. let is = conn_true n q.past.conn yes in wrong (is.1, rises last q.past.conn n conn is.0))))
hold_refused H.OfCore q last h n conn known wrong fits =
    refused_by (record { draft = record fresh { conn = h.conn }; there_goes = core_goes q h (not_falling last q.past.conn h.conn conn known.1) known.0 }) refl
    (λ at. four_wrong q (record fresh { conn = h.conn }) N.HoldCore n at fits (false_of (nat_lt n 64) (λ yes. wrong (below_true n 64 yes))))
hold_refused H.OfCount q last h n conn known wrong fits =
    refused_by (record { draft = record fresh { conn = h.conn; core = h.core }; there_goes = count_goes q h (not_falling last q.past.conn h.conn conn known.0.1) known.0.0 known.1 }) refl
    (λ at. four_wrong q (record fresh { conn = h.conn; core = h.core }) N.HoldCount n at fits (false_of (nat_le 1 n && nat_le n 64) (λ yes. wrong (between_true n 1 64 yes))))

hold_bad : (text : List ℕ) (at : ℕ) → IsBadHold text at → journal_verdict text ≡ Bad (Form at)
hold_bad text at has =
    refused_bad text has.journal at (before_in_hold has.field has.hold) (to_be_bytes w32 has.number) has.rest has.front.readable has.front.whole (has.place ∙ ap (λ (n : ℕ). n + length (before_in_hold has.field has.hold)) has.front.place) has.within
    (hold_refused has.field (after_records has.journal) (last_one has.journal.holds) has.hold has.number (conn_after has.journal) has.lawful has.wrong has.fits)

-- ---- the magic and tags

magic_begun : (at : ℕ) → at < 8 → Over journal_start 0 (take at magic) journal_start []
magic_begun zero within = record { parts = []; runs = (refl, refl); text_is = refl }
magic_begun (suc zero) within = record { parts = (90 ∷ []) ∷ []; runs = (refl, (refl, refl)); text_is = refl }
magic_begun (suc (suc zero)) within = record { parts = (90 ∷ []) ∷ (89 ∷ []) ∷ []; runs = (refl, (refl, (refl, refl))); text_is = refl }
magic_begun (suc (suc (suc zero))) within = record { parts = (90 ∷ []) ∷ (89 ∷ []) ∷ (71 ∷ []) ∷ []; runs = (refl, (refl, (refl, (refl, refl)))); text_is = refl }
magic_begun (suc (suc (suc (suc zero)))) within = record { parts = (90 ∷ []) ∷ (89 ∷ []) ∷ (71 ∷ []) ∷ (74 ∷ []) ∷ []; runs = (refl, (refl, (refl, (refl, (refl, refl))))); text_is = refl }
magic_begun (suc (suc (suc (suc (suc zero))))) within = record { parts = (90 ∷ []) ∷ (89 ∷ []) ∷ (71 ∷ []) ∷ (74 ∷ []) ∷ (82 ∷ []) ∷ []; runs = (refl, (refl, (refl, (refl, (refl, (refl, refl)))))); text_is = refl }
magic_begun (suc (suc (suc (suc (suc (suc zero)))))) within = record { parts = (90 ∷ []) ∷ (89 ∷ []) ∷ (71 ∷ []) ∷ (74 ∷ []) ∷ (82 ∷ []) ∷ (78 ∷ []) ∷ []; runs = (refl, (refl, (refl, (refl, (refl, (refl, (refl, refl))))))); text_is = refl }
magic_begun (suc (suc (suc (suc (suc (suc (suc zero))))))) within = record { parts = (90 ∷ []) ∷ (89 ∷ []) ∷ (71 ∷ []) ∷ (74 ∷ []) ∷ (82 ∷ []) ∷ (78 ∷ []) ∷ (49 ∷ []) ∷ []; runs = (refl, (refl, (refl, (refl, (refl, (refl, (refl, (refl, refl)))))))); text_is = refl }
magic_begun (suc (suc (suc (suc (suc (suc (suc (suc at)))))))) within = absurd (omega (arith, within))

-- the element after the first ones of a list
index_is : (front : List ℕ) (x : ℕ) (others : List ℕ) → slice_index (front ++ x ∷ others) (length front) ≡ x
index_is [] x others = refl
index_is (y ∷ front) x others = index_is front x others

magic_bad : (text : List ℕ) (at : ℕ) → IsBadJournalMagic text at → journal_verdict text ≡ Bad (Form at)
magic_bad text at has =
    let front_is : has.front ≡ take at magic = sym (take_at has.front (has.right ∷ has.others) at (sym has.place)) ∙ ap (λ (l : List ℕ). take at l) (sym has.begins) in
    let right_is : slice_index magic at ≡ has.right = ap (λ (l : List ℕ). slice_index l at) has.begins ∙ ap (λ (n : ℕ). slice_index (has.front ++ has.right ∷ has.others) n) has.place ∙ index_is has.front has.right has.others in
    let within : at < 8 = omega (arith, ap (λ (l : List ℕ). length l) has.begins, length-append has.front (has.right ∷ has.others), has.place) in
    let differs : (has.byte == slice_index magic at) ≡ false = false_of (has.byte == slice_index magic at) (λ yes. has.differs (eqb-true has.byte (slice_index magic at) yes ∙ right_is)) in
    let sizes : length (take at magic) ≡ at = ap (λ (l : List ℕ). length l) (sym front_is) ∙ sym has.place in
    fault_bad journal_fields journal_lawful good_journal Bad text journal_start (Form at)
    (inl (over_misjudged journal_fields text journal_start (Form at) (take at magic) (has.byte ∷ []) has.rest [] (magic_begun at within) (omega (arith, sizes, within)) (has.whole ∙ ap (λ (l : List ℕ). l ++ has.byte ∷ has.rest) front_is) refl (inr (omega (arith, sizes, within)))
    (ap (λ (n : ℕ). journal_judged (Byte B.Magic) journal_start n (has.byte ∷ [])) sizes ∙ one_wrong journal_start fresh B.Magic has.byte at differs)))

holds_after : (journal : Journal) → (after_records journal).holds ≡ journal.holds
holds_after journal = holds_read journal.holds (with_entries journal_start journal.entries) ∙ ap (λ (l : List Hold). l ++ journal.holds) (entries_keep journal.entries journal_start)

no_tag : (byte count : ℕ) → (byte ≡ 69 → ⊥) → (byte ≡ 72 → ⊥) → (byte ≡ 74 → count ≡ 0 → ⊥) → (byte == 69 || byte == 72 || (byte == 74 && count == 0)) ≡ false
no_tag byte count no_end no_hold no_entry = grind (arith, nat_tests)

tag_bad : (text : List ℕ) (at : ℕ) → IsBadJournalTag text at → journal_verdict text ≡ Bad (Form at)
tag_bad text at has =
    let q : ReadState = after_records has.journal in
    let none : Leads q fresh (Byte B.Tag) [] (Byte B.Tag) = record { draft = fresh; there_goes = stays q fresh (Byte B.Tag) } in
    refused_bad text has.journal at [] (has.byte ∷ []) has.rest has.front.readable has.front.whole (has.front.place ∙ omega arith) (omega (arith, has.within))
    (refused_by none refl
    (λ here. one_wrong q fresh B.Tag has.byte here
    (no_tag has.byte (length q.holds) has.no_end has.no_hold (λ is empty. has.no_entry (sym (holds_after has.journal) ∙ no_items q.holds empty) is))))

-- ---- the end

trailing_bad : (text : List ℕ) (at : ℕ) → FollowsJournal text at → journal_verdict text ≡ Bad (Form at)
trailing_bad text at has =
    let b : List ℕ = journal_bytes has.journal in
    let s : ReadState = at_end has.journal in
    fault_bad journal_fields journal_lawful good_journal Bad text s (Form at)
    (inl (over_misjudged journal_fields text s (Form at) b (has.byte ∷ []) has.rest (tt ∷ []) (whole_over has.journal has.readable) (omega (arith, has.place, has.within)) has.whole refl (inl refl)
    (ap (λ (n : ℕ). Wrong (Form n)) (sym has.place))))

-- ---- all faults

-- a text is bad with a wrong field that it has
pub wrong_bad : (text : List ℕ) (fault : FileFault) → IsWrongForm IsWrongJournal text fault → journal_verdict text ≡ Bad fault
wrong_bad text (Form at) (inl has) = magic_bad text at has
wrong_bad text (Form at) (inr (inl has)) = tag_bad text at has
wrong_bad text (Form at) (inr (inr (inl has))) = entry_bad text at has
wrong_bad text (Form at) (inr (inr (inr (inl has)))) = hold_bad text at has
wrong_bad text (Form at) (inr (inr (inr (inr has)))) = trailing_bad text at has
wrong_bad text fault has = absurd has
