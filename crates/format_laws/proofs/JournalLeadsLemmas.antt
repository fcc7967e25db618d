-- Where the first bytes of an entry lead.
use Rattle.std.proofs.Common.{◌≡◌, ◌⊎◌, inl, inr, ℕ, ◌<◌, ◌≤◌, ◌^◌, Bool, true, false, List, [], ◌∷◌, ◌++◌, length}
use Rattle.std.proofs.Common.{refl, sym, ◌∙◌, ap, subst, arith, append_assoc}
use Rattle.std.specs.Prelude.{◌==◌, if◌then◌else◌, Option, None, IsSome, is_some}
use Rattle.std.specs.Int.{to_be_bytes, w32, w64}
use Rattle.std.proofs.lemmas.List.{append-nil}
use Rattle.mc_calls.specs.declared.call.Call.{Call}
use Rattle.mc_calls.specs.declared.call_kind.CallKind.{CallKind}
use Rattle.mc_calls.specs.declared.call_reply.CallReply.{CallReply}
use Rattle.mc_calls.specs.declared.entry.Entry.{Entry}
use Rattle.mc_calls.specs.declared.hold.Hold.{Hold}
use Rattle.mc_calls.specs.Call.{key_of}
use Rattle.mc_calls.specs.Code.{code_of, fields_of, call_of, call_code, call_flags, call_number, call_value}
use Rattle.mc_calls.specs.Code.{reply_code, reply_flags, reply_number, reply_value, hit_code, plain_reply}
use Rattle.mc_calls.specs.Bounds.{IsCall, FitsCall, FitsReply, FitsEntry}
use Rattle.mc_calls.proofs.CodeLemmas.{there, call_has, of_kinds, of_forms, plain_is}
use Rattle.zy_journal.specs.Journal.{key_text, field_text, fields_text, call_text, entry_head, IsEntry}
use Rattle.zy_journal_reader.specs.declared.draft.Draft.{Draft}
use Rattle.zy_journal_reader.specs.declared.due.Due.{Due}
use Rattle.zy_journal_reader.specs.declared.due.Due.TheVariants.{Byte, Number, Long}
use Rattle.zy_journal_reader.specs.declared.due.ByteField.TheVariants as B
use Rattle.zy_journal_reader.specs.declared.due.NumberField.TheVariants as N
use Rattle.zy_journal_reader.specs.declared.due.LongField.TheVariants as L
use Rattle.zy_journal_reader.specs.Fields.{fresh, after_call_code, at_flags, at_value}
use Rattle.zy_journal_reader.specs.Steps.{ReadState}
use Rattle.format_laws.specs.JournalFields.{before, EntryField as E}
use Rattle.zy_journal_reader.proofs.SoFar.{ComesAfter}
use Rattle.zy_journal_reader.proofs.PlaceLemmas.{Goes, both, one_byte, four_bytes, eight_bytes}
use Rattle.zy_journal_reader.proofs.GoesLemmas.{known_front, front_of, front_goes, below_is, stamp_is, shard_is}
use Rattle.zy_journal_reader.proofs.GoesLemmas.{plain, known, call_goes, code_goes}
use Rattle.zy_journal_reader.proofs.SpelledLemmas.{head_of, head_goes}

-- some bytes lead from a field to another one of the record
pub record Leads (q : ReadState) (d : Draft) (due : Due) (text : List ℕ) (next : Due) : Type 0 where
  pub draft : Draft
  pub there_goes : Goes q d due text q draft next

-- the tag of an entry
pub tag_goes : (q : ReadState) → q.holds ≡ [] → Goes q fresh (Byte B.Tag) (74 ∷ []) q fresh (Long L.Stamp)
tag_goes q none = one_byte q q fresh fresh B.Tag (Long L.Stamp) 74 (λ at. ap (λ (l : List Hold). length l == 0) none) (λ at. refl)

-- and its stamp
pub shard_goes : (q : ReadState) (e : Entry) → q.holds ≡ [] → 0 < e.stamp → e.stamp < 2 ^ 60 → q.past.stamp ≤ e.stamp → Goes q fresh (Byte B.Tag) (74 ∷ to_be_bytes w64 e.stamp) q (record fresh { stamp = e.stamp }) (Number N.Shard)
shard_goes q e none some few above =
    both (74 ∷ []) (to_be_bytes w64 e.stamp) (tag_goes q none)
    (eight_bytes q q fresh (record fresh { stamp = e.stamp }) L.Stamp (Number N.Shard) e.stamp (omega (arith, few)) (stamp_is e.stamp q.past.stamp some few above) refl)

above_of : (past stamp past_shard shard : ℕ) → (past < stamp) ⊎ ((past ≡ stamp) × (past_shard < shard)) → past ≤ stamp
above_of past stamp past_shard shard (inl later) = omega (arith, later)
above_of past stamp past_shard shard (inr same) = omega (arith, same.0)

-- and its shard
pub connection_goes : (q : ReadState) (e : Entry) → q.holds ≡ [] → IsEntry e → ComesAfter q.past e → Goes q fresh (Byte B.Tag) (before E.Connection e) q (record fresh { stamp = e.stamp; shard = e.shard }) (Number N.Connection)
connection_goes q e none is comes =
    let d1 : Draft = record fresh { stamp = e.stamp } in
    both (74 ∷ to_be_bytes w64 e.stamp) (to_be_bytes w32 e.shard) (shard_goes q e none is.some_stamp is.few_stamps (above_of q.past.stamp e.stamp q.past.shard e.shard comes))
    (four_bytes q q d1 (record d1 { shard = e.shard }) N.Shard (Number N.Connection) e.shard (omega (arith, is.few_shards)) (shard_is e.shard q.past.shard e.stamp q.past.stamp is.few_shards comes) refl)

-- and its connection
pub command_goes : (q : ReadState) (e : Entry) → q.holds ≡ [] → IsEntry e → ComesAfter q.past e → Goes q fresh (Byte B.Tag) (before E.Command e) q (record fresh { stamp = e.stamp; shard = e.shard; conn = e.tag.conn }) (Long L.Index)
command_goes q e none is comes =
    let d2 : Draft = record fresh { stamp = e.stamp; shard = e.shard } in
    subst (λ (l : List ℕ). Goes q fresh (Byte B.Tag) l q (record d2 { conn = e.tag.conn }) (Long L.Index)) (ap (λ (l : List ℕ). 74 ∷ l) (append_assoc (to_be_bytes w64 e.stamp) (to_be_bytes w32 e.shard) (to_be_bytes w32 e.tag.conn)))
    (both (before E.Connection e) (to_be_bytes w32 e.tag.conn) (connection_goes q e none is comes)
    (four_bytes q q d2 (record d2 { conn = e.tag.conn }) N.Connection (Long L.Index) e.tag.conn (omega (arith, is.few_connections)) (below_is e.tag.conn 4096 is.few_connections) refl))

-- a field of a kind is there
there_some : {X : Type 0} (o : Option X) (b : Bool) (x : X) → o ≡ there b x → IsSome o → b ≡ true
there_some o true x is some = refl
there_some {X} o false x is some = let none : is_some o ≡ false = ap (λ (q : Option X). is_some q) is in cc

-- the code of a call that has a key
pub after_code : (q : ReadState) (d : Draft) (call : Call) → IsSome (key_of call) → Leads q d (Byte B.CallCode) (call_code call ∷ []) (Byte B.KeyLength)
after_code q d =
    of_kinds (λ (call : Call). IsSome (key_of call) → Leads q d (Byte B.CallCode) (call_code call ∷ []) (Byte B.KeyLength))
    (λ kind key flags number value some.
    let has = call_has kind key flags number value in
    let due_is : after_call_code (fields_of kind) ≡ Byte B.KeyLength = ap (λ (b : Bool). if b then Byte B.KeyLength else at_flags (fields_of kind)) (there_some (key_of (call_of kind key flags number value)) (fields_of kind).key key has.key_is some) in
    record {
      draft = record d { kind = kind };
      there_goes = subst (λ (l : List ℕ). Goes q d (Byte B.CallCode) l q (record d { kind = kind }) (Byte B.KeyLength)) (ap (λ (k : CallKind). code_of k ∷ []) (sym has.kind_is))
          (subst (λ (due : Due). Goes q d (Byte B.CallCode) (code_of kind ∷ []) q (record d { kind = kind }) due) due_is (code_goes q d kind));
    })

-- the bytes of a call before its value
abbrev pub to_value : Call → List ℕ
to_value call = call_code call ∷ (field_text key_text (key_of call) ++ fields_text (call_flags call) (call_number call) None)

pub before_value : (q : ReadState) (d : Draft) (call : Call) → IsCall call → FitsCall call → IsSome (call_value call) → Leads q (plain d) (Byte B.CallCode) (to_value call) (Number N.ValueLength)
before_value q d =
    of_kinds (λ (call : Call). IsCall call → FitsCall call → IsSome (call_value call) → Leads q (plain d) (Byte B.CallCode) (to_value call) (Number N.ValueLength))
    (λ kind key flags number value is fits some.
    let call : Call = call_of kind key flags number value in
    let has = call_has kind key flags number value in
    let k : List ℕ = field_text key_text (there (fields_of kind).key key) in
    let f : List ℕ = field_text (to_be_bytes w32) (there (fields_of kind).flags flags) in
    let n : List ℕ = field_text (to_be_bytes w64) (there (fields_of kind).number number) in
    let text : to_value call ≡ code_of kind ∷ (k ++ (f ++ (n ++ []))) = rw (has.kind_is, has.key_is, has.flags_are, has.number_is) refl in
    let spelled_as : front_of kind key flags number ≡ to_value call = ap (λ (l : List ℕ). code_of kind ∷ (k ++ (f ++ l))) (sym (append-nil n)) ∙ sym text in
    let due_is : at_value (fields_of kind) ≡ Number N.ValueLength = ap (λ (b : Bool). if b then Number N.ValueLength else Byte B.ReplyCode) (there_some (call_value call) (fields_of kind).value value has.value_is some) in
    let e : Draft = known_front kind key flags number (plain d) in
    record {
      draft = e;
      there_goes = subst (λ (l : List ℕ). Goes q (plain d) (Byte B.CallCode) l q e (Number N.ValueLength)) spelled_as
          (subst (λ (due : Due). Goes q (plain d) (Byte B.CallCode) (front_of kind key flags number) q e due) due_is (front_goes q d kind key flags number value is fits));
    })

-- a whole call
pub before_reply : (q : ReadState) (d : Draft) (call : Call) → IsCall call → FitsCall call → Leads q (plain d) (Byte B.CallCode) (call_text call) (Byte B.ReplyCode)
before_reply q d =
    of_kinds (λ (call : Call). IsCall call → FitsCall call → Leads q (plain d) (Byte B.CallCode) (call_text call) (Byte B.ReplyCode))
    (λ kind key flags number value is fits. record { draft = known kind key flags number value (plain d); there_goes = call_goes q d kind key flags number value is fits })

-- the bytes of a reply before its value
abbrev pub to_found : CallReply → List ℕ
to_found reply = reply_code reply ∷ fields_text (reply_flags reply) (reply_number reply) None

pub before_found : (q : ReadState) (d : Draft) (reply : CallReply) → FitsReply reply → IsSome (reply_value reply) → Leads q d (Byte B.ReplyCode) (to_found reply) (Number N.FoundLength)
before_found q d =
    of_forms (λ (reply : CallReply). FitsReply reply → IsSome (reply_value reply) → Leads q d (Byte B.ReplyCode) (to_found reply) (Number N.FoundLength))
    (λ flags unique value fits some.
    let e : Draft = record d { found_flags = flags } in
    let g : Draft = record e { found_unique = unique } in
    record {
      draft = g;
      there_goes = subst (λ (l : List ℕ). Goes q d (Byte B.ReplyCode) (hit_code ∷ (to_be_bytes w32 flags ++ l)) q g (Number N.FoundLength)) (sym (append-nil (to_be_bytes w64 unique)))
          (both (hit_code ∷ []) (to_be_bytes w32 flags ++ to_be_bytes w64 unique) (one_byte q q d d B.ReplyCode (Number N.FoundFlags) hit_code (λ at. refl) (λ at. refl))
          (both (to_be_bytes w32 flags) (to_be_bytes w64 unique) (four_bytes q q d e N.FoundFlags (Long L.FoundUnique) flags fits.0.0 refl refl)
          (eight_bytes q q e g L.FoundUnique (Number N.FoundLength) unique fits.0.1 refl refl)));
    })
    (λ number fits some. cc)
    (λ counts fits some. cc)
    (λ code low high no_hit no_number no_tally fits some. let none : is_some (reply_value (plain_reply code)) ≡ false = ap (λ (o : Option (List ℕ)). is_some o) (plain_is code low high no_hit no_number no_tally).no_value in cc)

-- after the head of an entry that may come next
pub after_head : {q : ReadState} {due : Due} (e : Entry) (text : List ℕ) → q.holds ≡ [] → IsEntry e → FitsEntry e → ComesAfter q.past e → Leads q (head_of e) (Byte B.CallCode) text due → Leads q fresh (Byte B.Tag) (entry_head e ++ text) due
after_head {q} {due} e text none is fits comes leads = record { draft = leads.draft; there_goes = both (entry_head e) text (head_goes q e none is fits comes) leads.there_goes }
