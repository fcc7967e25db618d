-- A byte that ends an entry, a hold or a field of one byte.
use Rattle.std.proofs.Common.{◌≡◌, ℕ, ◌≤◌, true, List, [], ◌∷◌, ◌++◌, length, sym, ◌∙◌, ap, arith, append_assoc}
use Rattle.std.specs.Prelude.{◌==◌}
use Rattle.std.specs.Int.{to_be_bytes, w32}
use Rattle.std.proofs.lemmas.List.{append-nil}
use Rattle.std.proofs.lemmas.Bool.{eqb-true}
use Rattle.mc_calls.specs.declared.call_reply.CallReply.{CallReply}
use Rattle.mc_calls.specs.declared.entry.Entry.{Entry}
use Rattle.mc_calls.specs.declared.hold.Hold.{Hold}
use Rattle.mc_calls.specs.Code.{code_of, kind_of, hit_code, number_code, tally_code, last_reply_code, plain_reply}
use Rattle.mc_calls.specs.Bounds.{IsReply, FitsReply}
use Rattle.zy_journal.specs.Journal.{call_text, reply_text, entry_head, entry_text, hold_text}
use Rattle.zy_journal_reader.specs.declared.due.Due.{Due}
use Rattle.zy_journal_reader.specs.declared.due.Due.TheVariants.{Byte, Number}
use Rattle.zy_journal_reader.specs.declared.due.ByteField.TheVariants.{Tag, CallCode, KeyLength, ReplyCode}
use Rattle.zy_journal_reader.specs.declared.due.NumberField.TheVariants.{HoldCount}
use Rattle.zy_journal_reader.specs.Fields.{entry_read, hold_of}
use Rattle.zy_journal_reader.specs.Steps.{ReadState, Done, ends_entry, ends_hold, lawful_byte, after_byte}
use Rattle.zy_journal_reader.proofs.CallLemmas.{call_in, plain_text, plain_within, plain_fits}
use Rattle.zy_journal_reader.proofs.SoFar.{front, head, before, Kept, StampKnown, HeadKnown, CallKnown, Known, Leads}
use Rattle.zy_journal_reader.proofs.TestLemmas.{between_true, tag_true, chosen, no_items, kept_entry, kept_hold, front_entry, front_hold, joined}
use Rattle.zy_journal_reader.proofs.ComingLemmas.{key_comes}

-- ---- the ends of records

-- what a byte that ends a field is added to
pub record Ends (due : Due) (p : ReadState) (t text : List ℕ) : Type 0 where
  pub bytes : text ≡ front p.entries p.holds ++ (before due p.draft ++ t)
  pub kept : Kept p.entries p.holds p.past
  pub known : Known due p.past p.draft p.holds

-- a field whose last byte was read
pub ended_by : {due : Due} {p : ReadState} {t text c : List ℕ} → Ends due p t text → before due p.draft ++ t ≡ c → text ≡ front p.entries p.holds ++ c
ended_by {due} {p} {t} {text} {c} ends same = joined text (front p.entries p.holds) (before due p.draft) t c ends.bytes same

-- an entry whose reply has this text
pub entry_on : (p : ReadState) (reply : CallReply) (text : List ℕ) → text ≡ front p.entries p.holds ++ ((head p.draft ++ call_text (call_in p.draft)) ++ reply_text reply)
    → Kept p.entries p.holds p.past → CallKnown p.past p.draft p.holds → IsReply reply → FitsReply reply → Leads text (ends_entry p reply)
unfolding entry_text entry_head
entry_on p reply text is kept known within fits =
    let e : Entry = entry_read p.draft reply in
    let h : HeadKnown p.past p.draft p.holds = known.0 in
    let s : StampKnown p.past p.draft p.holds = h.0.0.0.0 in
    let spelled : text ≡ front p.entries p.holds ++ entry_text e =
    is ∙ ap (λ (l : List ℕ). front p.entries p.holds ++ l) (append_assoc (head p.draft) (call_text (call_in p.draft)) (reply_text reply)) in
    record {
      bytes = spelled ∙ front_entry p.entries p.holds e s.0 ∙ sym (append-nil (front (p.entries ++ e ∷ []) p.holds));
      kept = kept_entry p.entries p.holds p.past e kept (record {
        some_stamp = s.1;
        few_stamps = s.2;
        few_shards = h.0.0.0.1;
        few_connections = h.0.0.1;
        few_commands = h.0.1;
        call = known.1;
        reply = within;
      }) (record { part = h.1; call = known.2; reply = fits }) h.0.0.0.2;
      field = tt;
      known = tt;
    }

pub hold_on : (p : ReadState) (count : ℕ) (text : List ℕ) → Ends (Number HoldCount) p (to_be_bytes w32 count) text → 1 ≤ count → count ≤ 64 → Leads text (ends_hold p count)
unfolding hold_text
hold_on p count text ends some few =
    let h : Hold = hold_of p.draft count in
    let spelled : text ≡ front p.entries p.holds ++ hold_text h =
    ends.bytes ∙ ap (λ (l : List ℕ). front p.entries p.holds ++ 72 ∷ l) (append_assoc (to_be_bytes w32 p.draft.conn) (to_be_bytes w32 p.draft.core) (to_be_bytes w32 count)) in
    record {
      bytes = spelled ∙ front_hold p.entries p.holds h ∙ sym (append-nil (front p.entries (p.holds ++ h ∷ [])));
      kept = kept_hold p.entries p.holds p.past h ends.kept (record { few_connections = ends.known.1; few_cores = ends.known.2; some_commands = some; few_commands = few }) ends.known.0;
      field = tt;
      known = tt;
    }

-- ---- fields of one byte

pub tag_on : (p : ReadState) (at byte : ℕ) (text : List ℕ) → Ends (Byte Tag) p (byte ∷ []) text → lawful_byte Tag p at byte ≡ true → Leads text (after_byte Tag p at byte)
tag_on p at byte text ends lawful =
    let f : List ℕ = front p.entries p.holds in
    let P : Done → Type 0 = λ (j : Done). Leads text j in
    let becomes : (due : ℕ) → byte ≡ due → text ≡ f ++ due ∷ [] = λ due is. ends.bytes ∙ ap (λ (b : ℕ). f ++ b ∷ []) is in
    chosen P (byte == 69) _ _
    (λ is. record { bytes = becomes 69 (eqb-true byte 69 is); kept = ends.kept; field = tt; known = tt })
    (λ no_end. chosen P (byte == 72) _ _
    (λ is. record { bytes = becomes 72 (eqb-true byte 72 is); kept = ends.kept; field = tt; known = tt })
    (λ no_hold.
    let is = tag_true byte (length p.holds) lawful no_end no_hold in
    record { bytes = becomes 74 is.0; kept = ends.kept; field = tt; known = no_items p.holds is.1 }))

-- after the code of a call
pub code_on : (p : ReadState) (at byte : ℕ) (text : List ℕ) → code_of (kind_of byte) ≡ byte → Ends (Byte CallCode) p (byte ∷ []) text → Leads text (after_byte CallCode p at byte)
code_on p at byte text code ends =
    key_comes p (record p.draft { kind = kind_of byte }) text (record {
      bytes = ends.bytes ∙ ap (λ (b : ℕ). front p.entries p.holds ++ (head p.draft ++ b ∷ [])) (sym code);
      kept = ends.kept;
      known = ends.known;
    })

pub key_length_on : (p : ReadState) (at byte : ℕ) (text : List ℕ) → Ends (Byte KeyLength) p (byte ∷ []) text → lawful_byte KeyLength p at byte ≡ true → Leads text (after_byte KeyLength p at byte)
key_length_on p at byte text ends lawful =
    let is = between_true byte 1 250 lawful in
    record {
      bytes = joined text (front p.entries p.holds) (head p.draft ++ code_of p.draft.kind ∷ []) (byte ∷ []) (head p.draft ++ (code_of p.draft.kind ∷ byte ∷ [])) ends.bytes (append_assoc (head p.draft) (code_of p.draft.kind ∷ []) (byte ∷ []));
      kept = ends.kept;
      field = omega (arith, is.0);
      known = (ends.known.0, ends.known.1, is.1);
    }

pub reply_code_on : (p : ReadState) (at byte : ℕ) (text : List ℕ) → Ends (Byte ReplyCode) p (byte ∷ []) text → lawful_byte ReplyCode p at byte ≡ true → Leads text (after_byte ReplyCode p at byte)
reply_code_on p at byte text ends lawful =
    let P : Done → Type 0 = λ (j : Done). Leads text j in
    let is = between_true byte 1 last_reply_code lawful in
    let call : List ℕ = call_text (call_in p.draft) in
    let coded : (code : ℕ) → (byte == code) ≡ true → text ≡ front p.entries p.holds ++ (head p.draft ++ (call ++ code ∷ [])) = λ code is. joined text (front p.entries p.holds) (head p.draft ++ call) (byte ∷ []) (head p.draft ++ (call ++ code ∷ [])) ends.bytes
    (append_assoc (head p.draft) call (byte ∷ []) ∙ ap (λ (b : ℕ). head p.draft ++ (call ++ b ∷ [])) (eqb-true byte code is)) in
    chosen P (byte == hit_code) _ _
    (λ hit. record { bytes = coded hit_code hit; kept = ends.kept; field = tt; known = ends.known })
    (λ no_hit. chosen P (byte == number_code) _ _
    (λ number. record { bytes = coded number_code number; kept = ends.kept; field = tt; known = ends.known })
    (λ no_number. chosen P (byte == tally_code) _ _
    (λ tallied. record { bytes = coded tally_code tallied; kept = ends.kept; field = tt; known = ends.known })
    (λ no_tally. entry_on p (plain_reply byte) text
    (ends.bytes ∙ ap (λ (l : List ℕ). front p.entries p.holds ++ ((head p.draft ++ call) ++ l)) (sym (plain_text byte is.0 is.1 no_hit no_number no_tally)))
    ends.kept ends.known (plain_within byte is.0 is.1 no_hit no_number no_tally) (plain_fits byte is.0 is.1 no_hit no_number no_tally))))
