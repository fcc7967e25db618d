-- What a text begins with, by its fields one after another.
use Rattle.std.proofs.Common.{◌≡◌, ℕ, ◌+◌, ◌<◌, ◌≤◌, ◌^◌, true, false, List, ◌∷◌, ◌++◌, length, take, drop, get_or, refl, sym, ◌∙◌, ap, subst, arith, append_assoc}
use Rattle.std.specs.Prelude.{◌==◌}
use Rattle.std.specs.Int.{to_be_bytes, from_be_bytes, w32, w64}
use Rattle.std.proofs.lemmas.List.{append-nil, length-take-le, take-append-drop}
use Rattle.std.proofs.lemmas.Bool.Decides.{nat_tests}
use Rattle.std.proofs.lemmas.Nat.{be_bytes_4, be_bytes_8}
use Rattle.mc_calls.specs.declared.call.Call.{Call}
use Rattle.mc_calls.specs.declared.call_kind.CallKind.{CallKind}
use Rattle.mc_calls.specs.declared.call_reply.CallReply.{CallReply}
use Rattle.mc_calls.specs.declared.call_reply.CallReply.TheVariants as Replies
use Rattle.mc_calls.specs.declared.hold.Hold.{Hold}
use Rattle.mc_calls.specs.Code.{code_of, kind_of, fields_of, call_of, hit_code, number_code, tally_code, last_call_code, last_reply_code, plain_reply}
use Rattle.mc_calls.specs.Bounds.{IsKey, IsValue}
use Rattle.zy_base.specs.Limits.{connection_limit, core_limit, hold_limit}
use Rattle.mc_calls.proofs.CodeLemmas.{code_back}
use Rattle.zy_read.specs.Bytes.{AreBytes}
use Rattle.zy_read.proofs.ByteLemmas.{each_byte, byte_at, bytes_take}
use Rattle.zy_journal.specs.Journal.{key_text, value_text, call_text, reply_text, entry_head, entry_text, hold_text}
use Rattle.zy_journal_reader.specs.declared.draft.Draft.{Draft}
use Rattle.zy_journal_reader.specs.declared.past.Past.{Past}
use Rattle.zy_journal_reader.specs.declared.records.heads.Head.{Head}
use Rattle.zy_journal_reader.specs.Fields.{fresh}
use Rattle.zy_journal_reader.specs.Found.{HasField, HasCall, HasReply, HasTag, HasHead, HasEntry, HasHold, entry_at, is_next}
use Rattle.zy_journal_reader.proofs.CallLemmas.{key_bytes, flags_bytes, number_bytes, value_bytes, call_text_is, call_is, plain_text, plain_within, plain_fits}

-- ---- numbers

first_bytes : (l first : List ℕ) (n : ℕ) → ((i : ℕ) → get_or l i 0 < 256) → first ≡ take n l → AreBytes first
first_bytes l first n small front = subst (λ (k : List ℕ). AreBytes k) (sym front) (bytes_take n l (each_byte l small))

first_size : (l first rest : List ℕ) (n : ℕ) → first ≡ take n l → length rest + n ≡ length l → length first ≡ n
first_size l first rest n front size = ap (λ (k : List ℕ). length k) front ∙ length-take-le n l (omega (arith, size))

parted : (l first rest : List ℕ) (n : ℕ) → first ≡ take n l → rest ≡ drop n l → l ≡ first ++ rest
parted l first rest n front back = rw (front, back) (sym (take-append-drop n l))

pub four_found : (l first rest : List ℕ) → ((i : ℕ) → get_or l i 0 < 256) → first ≡ take 4 l → rest ≡ drop 4 l → length rest + 4 ≡ length l → l ≡ to_be_bytes w32 (from_be_bytes w32 first) ++ rest
four_found l first rest small front back size =
    parted l first rest 4 front back
    ∙ ap (λ (k : List ℕ). k ++ rest) (sym (be_bytes_4 first (from_be_bytes w32 first) (first_size l first rest 4 front size) (byte_at first (first_bytes l first 4 small front)) refl))

pub eight_found : (l first rest : List ℕ) → ((i : ℕ) → get_or l i 0 < 256) → first ≡ take 8 l → rest ≡ drop 8 l → length rest + 8 ≡ length l → l ≡ to_be_bytes w64 (from_be_bytes w64 first) ++ rest
eight_found l first rest small front back size =
    parted l first rest 8 front back
    ∙ ap (λ (k : List ℕ). k ++ rest) (sym (be_bytes_8 first (from_be_bytes w64 first) (first_size l first rest 8 front size) (byte_at first (first_bytes l first 8 small front)) refl))

-- ---- calls

four_parts : (k f n v rest : List ℕ) → ((k ++ (f ++ n)) ++ v) ++ rest ≡ k ++ (f ++ (n ++ (v ++ rest)))
four_parts k f n v rest = append_assoc (k ++ (f ++ n)) v rest ∙ append_assoc k (f ++ n) (v ++ rest) ∙ ap (λ (l : List ℕ). k ++ l) (append_assoc f n (v ++ rest))

-- a code has its kind
pub kind_found : (text rest : List ℕ) (code : ℕ) (kind : CallKind) → text ≡ code ∷ rest → kind ≡ kind_of code → 1 ≤ code → code ≤ last_call_code → text ≡ code_of kind ∷ rest
kind_found text rest code kind coded is some most = coded ∙ ap (λ (n : ℕ). n ∷ rest) (sym (ap (λ (k : CallKind). code_of k) is ∙ code_back code some most))

-- a call is its code and its fields
pub call_found : (kind : CallKind) (key : List ℕ) (flags number : ℕ) (value : List ℕ) (text a b c e rest : List ℕ) → text ≡ code_of kind ∷ a
    → HasField key_text IsKey (fields_of kind).key a key b → HasField (to_be_bytes w32) (λ n. n < 2 ^ 32) (fields_of kind).flags b flags c
    → HasField (to_be_bytes w64) (λ n. n < 2 ^ 64) (fields_of kind).number c number e → HasField value_text IsValue (fields_of kind).value e value rest → HasCall text (call_of kind key flags number value) rest
call_found kind key flags number value text a b c e rest coded has_key has_flags has_number has_value =
    let d : Draft = record fresh { kind = kind; key = key; flags = flags; number = number; value = value } in
    let k : List ℕ = key_bytes d in
    let f : List ℕ = flags_bytes d in
    let n : List ℕ = number_bytes d in
    let v : List ℕ = value_bytes d in
    let read = call_is d has_key.known has_flags.known has_number.known has_value.known in
    record {
      spelled = coded
          ∙ ap (λ (l : List ℕ). code_of kind ∷ l)
          (has_key.spelled ∙ ap (λ (l : List ℕ). k ++ l) (has_flags.spelled ∙ ap (λ (l : List ℕ). f ++ l) (has_number.spelled ∙ ap (λ (l : List ℕ). n ++ l) has_value.spelled))
          ∙ sym (four_parts k f n v rest))
          ∙ ap (λ (l : List ℕ). l ++ rest) (sym (call_text_is d));
      within = read.within;
      fits = read.fits;
    }

-- ---- replies

pub plain_found : (code : ℕ) (text rest : List ℕ) → text ≡ code ∷ rest → 1 ≤ code → code ≤ last_reply_code → (code == hit_code) ≡ false → (code == number_code) ≡ false → (code == tally_code) ≡ false → HasReply text (plain_reply code) rest
plain_found code text rest coded some most no_hit no_number no_tally = record {
  spelled = coded ∙ ap (λ (l : List ℕ). l ++ rest) (sym (plain_text code some most no_hit no_number no_tally));
  within = plain_within code some most no_hit no_number no_tally;
  fits = plain_fits code some most no_hit no_number no_tally;
}

pub hit_found : (flags unique : ℕ) (value a b c rest : List ℕ) → a ≡ to_be_bytes w32 flags ++ b → b ≡ to_be_bytes w64 unique ++ c → c ≡ value_text value ++ rest → flags < 2 ^ 32 → unique < 2 ^ 64 → IsValue value
    → HasReply (hit_code ∷ a) (Replies.Hit flags unique value) rest
unfolding reply_text
hit_found flags unique value a b c rest one two three few small is =
    let f : List ℕ = to_be_bytes w32 flags in
    let u : List ℕ = to_be_bytes w64 unique in
    let v : List ℕ = value_text value in
    record {
      spelled = ap (λ (l : List ℕ). hit_code ∷ l)
          (one ∙ ap (λ (l : List ℕ). f ++ l) (two ∙ ap (λ (l : List ℕ). u ++ l) three ∙ sym (append_assoc u v rest)) ∙ sym (append_assoc f (u ++ v) rest));
      within = is;
      fits = ((few, small), tt);
    }

pub number_found : (n : ℕ) (a rest : List ℕ) → a ≡ to_be_bytes w64 n ++ rest → n < 2 ^ 64 → HasReply (number_code ∷ a) (Replies.Number n) rest
unfolding reply_text
number_found n a rest one small = record {
  spelled = ap (λ (l : List ℕ). number_code ∷ l) (one ∙ ap (λ (l : List ℕ). l ++ rest) (sym (append-nil (to_be_bytes w64 n))));
  within = tt;
  fits = ((tt, small), tt);
}

-- five texts, and a sixth after them
five_parts : (s h c i p rest : List ℕ) → (s ++ (h ++ (c ++ (i ++ p)))) ++ rest ≡ s ++ (h ++ (c ++ (i ++ (p ++ rest))))
five_parts s h c i p rest =
    append_assoc s (h ++ (c ++ (i ++ p))) rest
    ∙ ap (λ (l : List ℕ). s ++ l) (append_assoc h (c ++ (i ++ p)) rest ∙ ap (λ (l : List ℕ). h ++ l) (append_assoc c (i ++ p) rest ∙ ap (λ (l : List ℕ). c ++ l) (append_assoc i p rest)))

-- five texts one after another
in_row : (s h c i p a0 a1 a2 a3 a4 a5 : List ℕ) → a0 ≡ s ++ a1 → a1 ≡ h ++ a2 → a2 ≡ c ++ a3 → a3 ≡ i ++ a4 → a4 ≡ p ++ a5 → a0 ≡ s ++ (h ++ (c ++ (i ++ (p ++ a5))))
in_row s h c i p a0 a1 a2 a3 a4 a5 one two three four five =
    one ∙ ap (λ (l : List ℕ). s ++ l) (two ∙ ap (λ (l : List ℕ). h ++ l) (three ∙ ap (λ (l : List ℕ). c ++ l) (four ∙ ap (λ (l : List ℕ). i ++ l) five)))

pub tally_found : (gets sets hits misses items : ℕ) (a b c d e rest : List ℕ) → a ≡ to_be_bytes w64 gets ++ b → b ≡ to_be_bytes w64 sets ++ c → c ≡ to_be_bytes w64 hits ++ d → d ≡ to_be_bytes w64 misses ++ e → e ≡ to_be_bytes w64 items ++ rest
    → gets < 2 ^ 64 → sets < 2 ^ 64 → hits < 2 ^ 64 → misses < 2 ^ 64 → items < 2 ^ 64 → HasReply (tally_code ∷ a) (Replies.Tally gets sets hits misses items) rest
unfolding reply_text
tally_found gets sets hits misses items a b c d e rest one two three four five g s h m i =
    let g' : List ℕ = to_be_bytes w64 gets in
    let s' : List ℕ = to_be_bytes w64 sets in
    let h' : List ℕ = to_be_bytes w64 hits in
    let m' : List ℕ = to_be_bytes w64 misses in
    let i' : List ℕ = to_be_bytes w64 items in
    let all : List ℕ = g' ++ (s' ++ (h' ++ (m' ++ i'))) in
    record {
      spelled = ap (λ (l : List ℕ). tally_code ∷ l)
          (in_row g' s' h' m' i' a b c d e rest one two three four five ∙ sym (five_parts g' s' h' m' i' rest) ∙ ap (λ (l : List ℕ). l ++ rest) (sym (append-nil all)));
      within = tt;
      fits = ((tt, tt), (g, s, h, m, i));
    }

-- ---- records

pub head_found : (past : Past) (h : Head) (text a b c rest : List ℕ) → text ≡ 74 ∷ a → a ≡ to_be_bytes w64 h.stamp ++ b → b ≡ to_be_bytes w32 h.shard ++ c → HasTag c h.tag rest → is_next h past ≡ true → HasHead past text h rest
head_found past h text a b c rest tagged one two tag next = record {
  spelled = tagged ∙ ap (λ (l : List ℕ). 74 ∷ l) (one ∙ ap (λ (l : List ℕ). to_be_bytes w64 h.stamp ++ l) (two ∙ ap (λ (l : List ℕ). to_be_bytes w32 h.shard ++ l) tag.spelled));
  some_stamp = grind (arith, nat_tests, next);
  few_stamps = grind (arith, nat_tests, next);
  few_shards = grind (arith, nat_tests, next);
  few_connections = grind (arith, nat_tests, next);
  few_commands = grind (arith, nat_tests, next);
  part = tag.part;
  comes = grind (arith, nat_tests, next);
}

pub entry_found : (past : Past) (h : Head) (call : Call) (reply : CallReply) (text b c rest : List ℕ) → HasHead past text h b → HasCall b call c → HasReply c reply rest → HasEntry past text (entry_at h call reply) rest
unfolding entry_text entry_head
entry_found past h call reply text b c rest head has_call has_reply =
    let s : List ℕ = to_be_bytes w64 h.stamp in
    let a : List ℕ = to_be_bytes w32 h.shard in
    let o : List ℕ = to_be_bytes w32 h.tag.conn in
    let i : List ℕ = to_be_bytes w64 h.tag.index in
    let p : List ℕ = to_be_bytes w32 h.tag.part in
    let numbers : List ℕ = s ++ (a ++ (o ++ (i ++ p))) in
    record {
      spelled = head.spelled ∙ ap (λ (l : List ℕ). 74 ∷ l)
          (sym (five_parts s a o i p b)
          ∙ ap (λ (l : List ℕ). numbers ++ l) (has_call.spelled ∙ ap (λ (l : List ℕ). call_text call ++ l) has_reply.spelled ∙ sym (append_assoc (call_text call) (reply_text reply) rest))
          ∙ sym (append_assoc numbers (call_text call ++ reply_text reply) rest));
      within = record {
        some_stamp = head.some_stamp;
        few_stamps = head.few_stamps;
        few_shards = head.few_shards;
        few_connections = head.few_connections;
        few_commands = head.few_commands;
        call = has_call.within;
        reply = has_reply.within;
      };
      fits = record { part = head.part; call = has_call.fits; reply = has_reply.fits };
      comes = head.comes;
    }

pub hold_found : (past : Past) (h : Hold) (text a b c rest : List ℕ) → text ≡ 72 ∷ a → a ≡ to_be_bytes w32 h.conn ++ b → b ≡ to_be_bytes w32 h.core ++ c → c ≡ to_be_bytes w32 h.count ++ rest
    → past.conn ≤ h.conn → h.conn < connection_limit → h.core < core_limit → 1 ≤ h.count → h.count ≤ hold_limit → HasHold past text h rest
unfolding hold_text
hold_found past h text a b c rest tagged one two three comes few_connections few_cores some few =
    let n : List ℕ = to_be_bytes w32 h.conn in
    let o : List ℕ = to_be_bytes w32 h.core in
    let t : List ℕ = to_be_bytes w32 h.count in
    record {
      spelled = tagged ∙ ap (λ (l : List ℕ). 72 ∷ l)
          (one ∙ ap (λ (l : List ℕ). n ++ l) (two ∙ ap (λ (l : List ℕ). o ++ l) three ∙ sym (append_assoc o t rest)) ∙ sym (append_assoc n (o ++ t) rest));
      within = record { few_connections = few_connections; few_cores = few_cores; some_commands = some; few_commands = few };
      comes = comes;
    }
