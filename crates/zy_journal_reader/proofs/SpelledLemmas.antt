-- A spelling of a journal that is not too long is read as that journal.
use Rattle.std.proofs.Common.{◌≡◌, ◌⊎◌, inl, inr, ℕ, ◌+◌, ◌<◌, ◌≤◌, ◌^◌, List, [], ◌∷◌, ◌++◌, length, refl, sym, ◌∙◌, ap, subst, arith, append_assoc}
use Rattle.std.specs.Prelude.{◌==◌, Option, None, Some, flat_map}
use Rattle.std.specs.List.{AllByRecursion}
use Rattle.std.specs.Int.{to_be_bytes, w32, w64}
use Rattle.std.proofs.lemmas.List.{append-nil}
use Rattle.mc_calls.specs.declared.call.Call.{Call}
use Rattle.mc_calls.specs.declared.call_kind.CallKind.{CallKind}
use Rattle.mc_calls.specs.declared.call_reply.CallReply.{CallReply}
use Rattle.mc_calls.specs.declared.entry.Entry.{Entry}
use Rattle.mc_calls.specs.declared.hold.Hold.{Hold}
use Rattle.mc_calls.specs.Code.{call_of}
use Rattle.mc_calls.specs.Bounds.{IsCall, IsReply, FitsCall, FitsReply, FitsEntry}
use Rattle.mc_calls.specs.Order.{IsOrdered, IsBehind}
use Rattle.mc_calls.proofs.CodeLemmas.{call_same, of_kinds}
use Rattle.zy_read.specs.Runs.{IsWhole}
use Rattle.zy_read.proofs.OverLemmas.{over_gives, over_join, over_begins}
use Rattle.zy_read.proofs.VerdictLemmas.{whole_good}
use Rattle.zy_journal.specs.declared.journal.Journal.{Journal}
use Rattle.zy_journal.specs.Journal.{magic, call_text, reply_text, entry_head, entry_text, hold_text, journal_bytes, IsEntry, IsHold, AreByConnection}
use Rattle.zy_journal_reader.specs.declared.draft.Draft.{Draft}
use Rattle.zy_journal_reader.specs.declared.past.Past.{Past}
use Rattle.zy_journal_reader.specs.declared.due.Due.TheVariants.{Byte, Number, Long, Nothing}
use Rattle.zy_journal_reader.specs.declared.due.ByteField.TheVariants.{Tag, CallCode, ReplyCode}
use Rattle.zy_journal_reader.specs.declared.due.NumberField.TheVariants.{Shard, Connection, Part, HoldConnection, HoldCore, HoldCount}
use Rattle.zy_journal_reader.specs.declared.due.LongField.TheVariants.{Stamp, Index}
use Rattle.zy_journal_reader.specs.Fields.{fresh}
use Rattle.zy_journal_reader.specs.Steps.{ReadState, journal_start, journal_fields, journal_limit}
use Rattle.zy_journal_reader.specs.Verdict.{good_journal, journal_verdict, journal_in, IsReadable, SpellsJournal}
use Rattle.zy_journal_reader.specs.Verdict.JournalVerdict.{Good, Bad}
use Rattle.zy_journal_reader.specs.Laws.{journal_lawful}
use Rattle.zy_journal_reader.specs.Verdict.{journal_front}
use Rattle.zy_journal_reader.specs.Found.{and_entry, and_hold}
use Rattle.zy_journal_reader.proofs.PlaceLemmas.{Over, place, Goes, both, stays, one_byte, four_bytes, eight_bytes}
use Rattle.zy_journal_reader.proofs.GoesLemmas.{between, below_is, stamp_is, shard_is, conn_is, plain, known, call_goes, after, reply_goes}

-- ---- entries

-- an entry comes after the last one
abbrev pub ComesAfter : Past → Entry → Type 0
ComesAfter past e = (past.stamp < e.stamp) ⊎ ((past.stamp ≡ e.stamp) × (past.shard < e.shard))

pub not_below : (past : Past) (e : Entry) → ComesAfter past e → past.stamp ≤ e.stamp
not_below past e (inl higher) = omega arith
not_below past e (inr same) = omega (arith, same.0)

-- what is known before the call of an entry
abbrev pub head_of : Entry → Draft
head_of e = record fresh { stamp = e.stamp; shard = e.shard; conn = e.tag.conn; index = e.tag.index; part = e.tag.part }

pub head_goes : (p : ReadState) (e : Entry) → p.holds ≡ [] → IsEntry e → FitsEntry e → ComesAfter p.past e → Goes p fresh (Byte Tag) (entry_head e) p (head_of e) (Byte CallCode)
unfolding entry_head
head_goes p e none is fits comes =
    let d1 : Draft = record fresh { stamp = e.stamp } in
    let d2 : Draft = record d1 { shard = e.shard } in
    let d3 : Draft = record d2 { conn = e.tag.conn } in
    let d4 : Draft = record d3 { index = e.tag.index } in
    let part : List ℕ = to_be_bytes w32 e.tag.part in
    let index : List ℕ = to_be_bytes w64 e.tag.index in
    let conn : List ℕ = to_be_bytes w32 e.tag.conn in
    let shard : List ℕ = to_be_bytes w32 e.shard in
    let stamp : List ℕ = to_be_bytes w64 e.stamp in
    both (74 ∷ []) (stamp ++ (shard ++ (conn ++ (index ++ part)))) (one_byte p p fresh fresh Tag (Long Stamp) 74 (λ at. ap (λ (l : List Hold). length l == 0) none) (λ at. refl))
    (both stamp (shard ++ (conn ++ (index ++ part))) (eight_bytes p p fresh d1 Stamp (Number Shard) e.stamp (omega (arith, is.few_stamps)) (stamp_is e.stamp p.past.stamp is.some_stamp is.few_stamps (not_below p.past e comes)) refl)
    (both shard (conn ++ (index ++ part)) (four_bytes p p d1 d2 Shard (Number Connection) e.shard (omega (arith, is.few_shards)) (shard_is e.shard p.past.shard e.stamp p.past.stamp is.few_shards comes) refl)
    (both conn (index ++ part) (four_bytes p p d2 d3 Connection (Long Index) e.tag.conn (omega (arith, is.few_connections)) (below_is e.tag.conn 4096 is.few_connections) refl)
    (both index part (eight_bytes p p d3 d4 Index (Number Part) e.tag.index (omega (arith, is.few_commands)) (below_is e.tag.index (2 ^ 40) is.few_commands) refl)
    (four_bytes p p d4 (head_of e) Part (Byte CallCode) e.tag.part fits.part refl refl)))))

-- the entry of which this was read before its call
abbrev pub entry_with : Draft → Call → CallReply → Entry
entry_with d call reply = record { tag = record { conn = d.conn; index = d.index; part = d.part }; shard = d.shard; call = call; reply = reply; stamp = d.stamp }

-- what was read of an entry is the entry
pub is_whole : (p : ReadState) (d : Draft) (kind : CallKind) (key : List ℕ) (flags number : ℕ) (value : List ℕ) (reply : CallReply)
    → after p (known kind key flags number value (plain d)) reply ≡ and_entry p (entry_with d (call_of kind key flags number value) reply)
is_whole p d kind key flags number value reply = ap (λ (call : Call). and_entry p (entry_with d call reply)) (call_same kind key flags number value d.key d.flags d.number d.value)

-- the call of an entry and its reply
pub call_and_reply : (p : ReadState) (d : Draft) (reply : CallReply) → IsReply reply → FitsReply reply → (call : Call) → IsCall call → FitsCall call
    → Goes p (plain d) (Byte CallCode) (call_text call ++ reply_text reply) (and_entry p (entry_with d call reply)) fresh (Byte Tag)
call_and_reply p d reply within fits =
    of_kinds (λ (call : Call). IsCall call → FitsCall call → Goes p (plain d) (Byte CallCode) (call_text call ++ reply_text reply) (and_entry p (entry_with d call reply)) fresh (Byte Tag))
    (λ kind key flags number value is small.
    let call : Call = call_of kind key flags number value in
    let e : Draft = known kind key flags number value (plain d) in
    both (call_text call) (reply_text reply) (call_goes p d kind key flags number value is small)
    (subst (λ (q : ReadState). Goes p e (Byte ReplyCode) (reply_text reply) q fresh (Byte Tag)) (is_whole p d kind key flags number value reply) (reply_goes p e reply within fits)))

pub entry_goes : (p : ReadState) (e : Entry) → p.holds ≡ [] → IsEntry e → FitsEntry e → ComesAfter p.past e → Goes p fresh (Byte Tag) (entry_text e) (and_entry p e) fresh (Byte Tag)
unfolding entry_text
entry_goes p e none is fits comes =
    both (entry_head e) (call_text e.call ++ reply_text e.reply) (head_goes p e none is fits comes) (call_and_reply p (head_of e) e.reply is.reply fits.reply e.call is.call fits.call)

-- the lists with further entries
abbrev pub with_entries : ReadState → List Entry → ReadState
with_entries p [] = p
with_entries p (e ∷ es) = with_entries (and_entry p e) es

pub entries_go : (es : List Entry) (p : ReadState) (before : Option Entry) → p.holds ≡ [] → AllByRecursion IsEntry es → AllByRecursion FitsEntry es → IsOrdered before es
    → ((e : Entry) → 0 < e.stamp → IsBehind before e → ComesAfter p.past e) → Goes p fresh (Byte Tag) (flat_map entry_text es) (with_entries p es) fresh (Byte Tag)
entries_go [] p before none all fits ordered comes = stays p fresh (Byte Tag)
entries_go (e ∷ es) p before none all fits ordered comes =
    both (entry_text e) (flat_map entry_text es) (entry_goes p e none all.0 fits.0 (comes e all.0.some_stamp ordered.0))
    (entries_go es (and_entry p e) (Some e) none all.1 fits.1 ordered.1 (λ x some behind. behind))

-- ---- holds

pub hold_goes : (p : ReadState) (h : Hold) → IsHold h → p.past.conn ≤ h.conn → Goes p fresh (Byte Tag) (hold_text h) (and_hold p h) fresh (Byte Tag)
unfolding hold_text
hold_goes p h is after_last =
    let d1 : Draft = record fresh { conn = h.conn } in
    let d2 : Draft = record d1 { core = h.core } in
    let conn : List ℕ = to_be_bytes w32 h.conn in
    let core : List ℕ = to_be_bytes w32 h.core in
    let count : List ℕ = to_be_bytes w32 h.count in
    both (72 ∷ []) (conn ++ (core ++ count)) (one_byte p p fresh fresh Tag (Number HoldConnection) 72 (λ at. refl) (λ at. refl))
    (both conn (core ++ count) (four_bytes p p fresh d1 HoldConnection (Number HoldCore) h.conn (omega (arith, is.few_connections)) (conn_is h.conn p.past.conn after_last is.few_connections) refl)
    (both core count (four_bytes p p d1 d2 HoldCore (Number HoldCount) h.core (omega (arith, is.few_cores)) (below_is h.core 64 is.few_cores) refl)
    (four_bytes p (and_hold p h) d2 fresh HoldCount (Byte Tag) h.count (omega (arith, is.few_commands)) (between h.count 1 64 is.some_commands is.few_commands) refl)))

-- the lists with further holds
abbrev pub with_holds : ReadState → List Hold → ReadState
with_holds p [] = p
with_holds p (h ∷ hs) = with_holds (and_hold p h) hs

pub holds_go : (hs : List Hold) (p : ReadState) → AllByRecursion IsHold hs → AreByConnection p.past.conn hs → Goes p fresh (Byte Tag) (flat_map hold_text hs) (with_holds p hs) fresh (Byte Tag)
holds_go [] p all rising = stays p fresh (Byte Tag)
holds_go (h ∷ hs) p all rising =
    both (hold_text h) (flat_map hold_text hs) (hold_goes p h all.0 rising.0) (holds_go hs (and_hold p h) all.1 rising.1)

-- ---- the whole

pub entries_read : (es : List Entry) (p : ReadState) → (with_entries p es).entries ≡ p.entries ++ es
entries_read [] p = sym (append-nil p.entries)
entries_read (e ∷ es) p = entries_read es (and_entry p e) ∙ append_assoc p.entries (e ∷ []) es

pub entries_keep : (es : List Entry) (p : ReadState) → (with_entries p es).holds ≡ p.holds
entries_keep [] p = refl
entries_keep (e ∷ es) p = entries_keep es (and_entry p e)

pub entries_past : (es : List Entry) (p : ReadState) → (with_entries p es).past.conn ≡ p.past.conn
entries_past [] p = refl
entries_past (e ∷ es) p = entries_past es (and_entry p e)

pub holds_read : (hs : List Hold) (p : ReadState) → (with_holds p hs).holds ≡ p.holds ++ hs
holds_read [] p = sym (append-nil p.holds)
holds_read (h ∷ hs) p = holds_read hs (and_hold p h) ∙ append_assoc p.holds (h ∷ []) hs

pub holds_keep : (hs : List Hold) (p : ReadState) → (with_holds p hs).entries ≡ p.entries
holds_keep [] p = refl
holds_keep (h ∷ hs) p = holds_keep hs (and_hold p h)

-- the state after the records of a journal
abbrev pub after_records : Journal → ReadState
after_records journal = with_holds (with_entries journal_start journal.entries) journal.holds

-- the magic
pub magic_over : Over journal_start 0 magic (place journal_start fresh (Byte Tag)) []
magic_over = record {
  parts = (90 ∷ []) ∷ (89 ∷ []) ∷ (71 ∷ []) ∷ (74 ∷ []) ∷ (82 ∷ []) ∷ (78 ∷ []) ∷ (49 ∷ []) ∷ (10 ∷ []) ∷ [];
  runs = (refl, (refl, (refl, (refl, (refl, (refl, (refl, (refl, (refl, refl)))))))));
  text_is = refl;
}

-- the magic and the records
pub front_over : (journal : Journal) → IsReadable journal → Over journal_start 0 (journal_front journal) (place (after_records journal) fresh (Byte Tag)) []
front_over journal readable =
    let entries : List ℕ = flat_map entry_text journal.entries in
    let holds : List ℕ = flat_map hold_text journal.holds in
    let p : ReadState = with_entries journal_start journal.entries in
    let first = entries_go journal.entries journal_start None refl readable.valid.entries readable.fits readable.valid.ordered (λ e some behind. inl some) in
    let second = holds_go journal.holds p readable.valid.holds (subst (λ (n : ℕ). AreByConnection n journal.holds) (sym (entries_past journal.entries journal_start)) readable.valid.rising) in
    over_join journal_fields journal_start (place journal_start fresh (Byte Tag)) (place (after_records journal) fresh (Byte Tag)) 0 magic (entries ++ holds) [] [] magic_over ((both entries holds first second).over (0 + length magic))

-- the state at the end
abbrev pub at_end : Journal → ReadState
at_end journal = place (after_records journal) fresh Nothing

pub front_end : (journal : Journal) → journal_front journal ++ 69 ∷ [] ≡ journal_bytes journal
unfolding journal_bytes
front_end journal =
    append_assoc magic (flat_map entry_text journal.entries ++ flat_map hold_text journal.holds) (69 ∷ []) ∙ ap (λ (l : List ℕ). magic ++ l) (append_assoc (flat_map entry_text journal.entries) (flat_map hold_text journal.holds) (69 ∷ []))

pub whole_over : (journal : Journal) → IsReadable journal → Over journal_start 0 (journal_bytes journal) (at_end journal) (tt ∷ [])
whole_over journal readable =
    let s : ReadState = place (after_records journal) fresh (Byte Tag) in
    subst (λ (l : List ℕ). Over journal_start 0 l (at_end journal) (tt ∷ [])) (front_end journal)
    (over_join journal_fields journal_start s (at_end journal) 0 (journal_front journal) (69 ∷ []) [] (tt ∷ []) (front_over journal readable)
    (over_gives journal_fields s (at_end journal) tt (0 + length (journal_front journal)) (69 ∷ []) refl refl))

-- what was read of it is the journal
pub end_is : (journal : Journal) → journal_in (at_end journal) ≡ journal
end_is journal =
    let p : ReadState = with_entries journal_start journal.entries in
    let q : ReadState = with_holds p journal.holds in
    let entries_are : q.entries ≡ journal.entries = holds_keep journal.holds p ∙ entries_read journal.entries journal_start in
    let holds_are : q.holds ≡ journal.holds = holds_read journal.holds p ∙ ap (λ (l : List Hold). l ++ journal.holds) (entries_keep journal.entries journal_start) in
    ap (λ (l : List Entry). record { entries = l; holds = q.holds }) entries_are ∙ ap (λ (l : List Hold). record { entries = journal.entries; holds = l }) holds_are

-- a spelling is whole fields that lead to the end
pub spells_whole : (text : List ℕ) (journal : Journal) → SpellsJournal text journal → IsWhole journal_fields text (at_end journal) (tt ∷ [])
spells_whole text journal spells = record {
  begins = over_begins journal_fields text (at_end journal) (journal_bytes journal) [] (tt ∷ []) (whole_over journal spells.readable)
      (subst (λ (l : List ℕ). length l ≤ journal_limit) spells.spelled spells.short) (spells.spelled ∙ sym (append-nil (journal_bytes journal)));
  end_is = refl;
}

-- a spelling is good
pub spells_good : (text : List ℕ) (journal : Journal) → SpellsJournal text journal → journal_verdict text ≡ Good journal
spells_good text journal spells =
    whole_good journal_fields journal_lawful good_journal Bad text (at_end journal) (tt ∷ []) (spells_whole text journal spells) ∙ ap (λ (j : Journal). Good j) (end_is journal)
