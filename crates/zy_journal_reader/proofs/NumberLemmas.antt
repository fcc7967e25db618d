-- A byte that ends a number.
use Rattle.std.proofs.Common.{◌≡◌, ℕ, ◌<◌, ◌≤◌, ◌^◌, true, List, [], ◌∷◌, ◌++◌, refl, sym, ◌∙◌, ap, arith, append_assoc}
use Rattle.std.specs.Prelude.{◌==◌}
use Rattle.std.specs.Int.{to_be_bytes, w32, w64}
use Rattle.std.proofs.lemmas.List.{append-nil}
use Rattle.std.proofs.lemmas.Bool.{eqb-true}
use Rattle.mc_calls.specs.declared.call_reply.CallReply.TheVariants as Replies
use Rattle.mc_calls.specs.Shard.{value_limit}
use Rattle.mc_calls.specs.Code.{code_of, hit_code, number_code, tally_code, tally}
use Rattle.mc_calls.specs.Bounds.{IsValue}
use Rattle.zy_journal.specs.Journal.{value_text, call_text, reply_text}
use Rattle.zy_journal_reader.specs.declared.draft.Draft.{Draft}
use Rattle.zy_journal_reader.specs.declared.due.Due.TheVariants.{Number, Long}
use Rattle.zy_journal_reader.specs.declared.due.NumberField.{NumberField}
use Rattle.zy_journal_reader.specs.declared.due.NumberField.TheVariants.{Shard, Connection, Part, Flags, ValueLength, FoundFlags, FoundLength, HoldConnection, HoldCore, HoldCount}
use Rattle.zy_journal_reader.specs.declared.due.LongField.{LongField}
use Rattle.zy_journal_reader.specs.declared.due.LongField.TheVariants.{Stamp, Index, CallNumber, FoundUnique, ReplyNumber, Gets, Sets, Hits, Misses, Items}
use Rattle.zy_journal_reader.specs.Steps.{ReadState, Done, lawful_number, lawful_long, after_four, after_eight}
use Rattle.zy_journal_reader.proofs.CallLemmas.{fields_in, call_in, key_bytes, flags_bytes, to_flags, to_number, to_value, its_bytes, its_field, call_text_is}
use Rattle.zy_journal_reader.proofs.SoFar.{front, head, Leads}
use Rattle.zy_journal_reader.proofs.TestLemmas.{between_true, below_true, most_true, stamp_true, shard_true, conn_true, positive, chosen}
use Rattle.zy_journal_reader.proofs.ComingLemmas.{reply_comes, value_comes, number_comes}
use Rattle.zy_journal_reader.proofs.EndLemmas.{Ends, ended_by, entry_on, hold_on}

-- ---- numbers of four bytes

-- the flags of a call
pub flags_on : (p : ReadState) (n : ℕ) (text : List ℕ) → Ends (Number Flags) p (to_be_bytes w32 n) text → n < 2 ^ 32 → Leads text (after_four Flags p n)
flags_on p n text ends small =
    let d : Draft = record p.draft { flags = n } in
    number_comes p d text (record {
      bytes = ends.bytes
          ∙ ap (λ (l : List ℕ). front p.entries p.holds ++ l)
          (append_assoc (head d) (to_flags d) (to_be_bytes w32 n) ∙ ap (λ (l : List ℕ). head d ++ (code_of d.kind ∷ (key_bytes d ++ l))) (its_bytes (to_be_bytes w32) (fields_in d).flags n ends.known.2));
      kept = ends.kept;
      known = ends.known.0;
    }) ends.known.1 (its_field (λ k. k < 2 ^ 32) (fields_in d).flags n ends.known.2 small)

-- the text of a call that ends with its value
pub value_spelled : (d : Draft) → (fields_in d).value ≡ true → to_value d ++ value_text d.value ≡ call_text (call_in d)
value_spelled d has = ap (λ (l : List ℕ). to_value d ++ l) (its_bytes value_text (fields_in d).value d.value has) ∙ sym (call_text_is d)

pub value_length_on : (p : ReadState) (n : ℕ) (text : List ℕ) → Ends (Number ValueLength) p (to_be_bytes w32 n) text → lawful_number ValueLength p n ≡ true
    → Leads text (after_four ValueLength p n)
value_length_on p n text ends lawful =
    let P : Done → Type 0 = λ (j : Done). Leads text j in
    let d : Draft = p.draft in
    let e : Draft = record d { value = [] } in
    let few : n ≤ value_limit = most_true n value_limit lawful in
    let grown = append_assoc (head d) (to_value d) (to_be_bytes w32 n) in
    chosen P (n == 0) _ _
    (λ none. reply_comes p e text (record {
      bytes = ends.bytes
          ∙ ap (λ (l : List ℕ). front p.entries p.holds ++ l)
          (grown ∙ ap (λ (k : ℕ). head d ++ (to_value d ++ to_be_bytes w32 k)) (eqb-true n 0 none)
          ∙ ap (λ (l : List ℕ). head d ++ (to_value d ++ l)) (sym (append-nil (to_be_bytes w32 0)))
          ∙ ap (λ (l : List ℕ). head d ++ l) (value_spelled e ends.known.4));
      kept = ends.kept;
      known = ends.known.0;
    }) ends.known.1 ends.known.2 ends.known.3 (its_field IsValue (fields_in d).value [] ends.known.4 (omega arith)))
    (λ some. record {
      bytes = ended_by ends grown;
      kept = ends.kept;
      field = positive n some;
      known = (ends.known.0, ends.known.1, ends.known.2, ends.known.3, ends.known.4, few);
    })

pub found_length_on : (p : ReadState) (n : ℕ) (text : List ℕ) → Ends (Number FoundLength) p (to_be_bytes w32 n) text → lawful_number FoundLength p n ≡ true
    → Leads text (after_four FoundLength p n)
unfolding reply_text
found_length_on p n text ends lawful =
    let P : Done → Type 0 = λ (j : Done). Leads text j in
    let d : Draft = p.draft in
    let few : n ≤ value_limit = most_true n value_limit lawful in
    let f : List ℕ = to_be_bytes w32 d.found_flags in
    let u : List ℕ = to_be_bytes w64 d.found_unique in
    let call : List ℕ = call_text (call_in d) in
    let grown : (head d ++ (call ++ hit_code ∷ (f ++ u))) ++ to_be_bytes w32 n ≡ head d ++ (call ++ hit_code ∷ (f ++ (u ++ to_be_bytes w32 n))) =
    append_assoc (head d) (call ++ hit_code ∷ (f ++ u)) (to_be_bytes w32 n) ∙ ap (λ (l : List ℕ). head d ++ l) (append_assoc call (hit_code ∷ (f ++ u)) (to_be_bytes w32 n)) ∙ ap (λ (l : List ℕ). head d ++ (call ++ hit_code ∷ l)) (append_assoc f u (to_be_bytes w32 n)) in
    chosen P (n == 0) _ _
    (λ none. entry_on p (Replies.Hit d.found_flags d.found_unique []) text
    (ends.bytes ∙ ap (λ (l : List ℕ). front p.entries p.holds ++ l)
    (grown ∙ ap (λ (k : ℕ). head d ++ (call ++ hit_code ∷ (f ++ (u ++ to_be_bytes w32 k)))) (eqb-true n 0 none)
    ∙ ap (λ (l : List ℕ). head d ++ (call ++ hit_code ∷ (f ++ (u ++ l)))) (sym (append-nil (to_be_bytes w32 0)))
    ∙ sym (append_assoc (head d) call (hit_code ∷ (f ++ (u ++ value_text []))))))
    ends.kept ends.known.0 (omega arith) ((ends.known.1, ends.known.2), tt))
    (λ some. record {
      bytes = ended_by ends grown;
      kept = ends.kept;
      field = positive n some;
      known = (ends.known, few);
    })

pub four_on : (field : NumberField) (p : ReadState) (n : ℕ) (text : List ℕ) → Ends (Number field) p (to_be_bytes w32 n) text → n < 2 ^ 32 → lawful_number field p n ≡ true → Leads text (after_four field p n)
four_on Shard p n text ends small lawful =
    let is = shard_true n p.past.shard p.draft.stamp p.past.stamp lawful ends.known.3 in
    record {
      bytes = ended_by ends refl;
      kept = ends.kept;
      field = tt;
      known = (ends.known, is.0, is.1);
    }
four_on Connection p n text ends small lawful = record {
  bytes = ended_by ends (ap (λ (l : List ℕ). 74 ∷ l) (append_assoc (to_be_bytes w64 p.draft.stamp) (to_be_bytes w32 p.draft.shard) (to_be_bytes w32 n)));
  kept = ends.kept;
  field = tt;
  known = (ends.known, below_true n 4096 lawful);
}
four_on Part p n text ends small lawful =
    let d : Draft = p.draft in
    let s : List ℕ = to_be_bytes w64 d.stamp in
    let h : List ℕ = to_be_bytes w32 d.shard in
    let c : List ℕ = to_be_bytes w32 d.conn in
    let i : List ℕ = to_be_bytes w64 d.index in
    record {
      bytes = ended_by ends
          (ap (λ (l : List ℕ). 74 ∷ l) (append_assoc s (h ++ (c ++ i)) (to_be_bytes w32 n) ∙ ap (λ (l : List ℕ). s ++ l) (append_assoc h (c ++ i) (to_be_bytes w32 n) ∙ ap (λ (l : List ℕ). h ++ l) (append_assoc c i (to_be_bytes w32 n)))));
      kept = ends.kept;
      field = tt;
      known = (ends.known, small);
    }
four_on Flags p n text ends small lawful = flags_on p n text ends small
four_on ValueLength p n text ends small lawful = value_length_on p n text ends lawful
four_on FoundFlags p n text ends small lawful =
    let call : List ℕ = call_text (call_in p.draft) in
    record {
      bytes = ended_by ends (append_assoc (head p.draft) (call ++ hit_code ∷ []) (to_be_bytes w32 n) ∙ ap (λ (l : List ℕ). head p.draft ++ l) (append_assoc call (hit_code ∷ []) (to_be_bytes w32 n)));
      kept = ends.kept;
      field = tt;
      known = (ends.known, small);
    }
four_on FoundLength p n text ends small lawful = found_length_on p n text ends lawful
four_on HoldConnection p n text ends small lawful = record {
  bytes = ended_by ends refl;
  kept = ends.kept;
  field = tt;
  known = conn_true n p.past.conn lawful;
}
four_on HoldCore p n text ends small lawful = record {
  bytes = ended_by ends refl;
  kept = ends.kept;
  field = tt;
  known = (ends.known.0, ends.known.1, below_true n 64 lawful);
}
four_on HoldCount p n text ends small lawful = let is = between_true n 1 64 lawful in hold_on p n text ends is.0 is.1

-- ---- numbers of eight bytes

-- the number of a call
pub call_number_on : (p : ReadState) (n : ℕ) (text : List ℕ) → Ends (Long CallNumber) p (to_be_bytes w64 n) text → n < 2 ^ 64 → Leads text (after_eight CallNumber p n)
call_number_on p n text ends small =
    let d : Draft = record p.draft { number = n } in
    value_comes p d text (record {
      bytes = ends.bytes
          ∙ ap (λ (l : List ℕ). front p.entries p.holds ++ l)
          (append_assoc (head d) (to_number d) (to_be_bytes w64 n)
          ∙ ap (λ (l : List ℕ). head d ++ (code_of d.kind ∷ l)) (append_assoc (key_bytes d) (flags_bytes d) (to_be_bytes w64 n))
          ∙ ap (λ (l : List ℕ). head d ++ (code_of d.kind ∷ (key_bytes d ++ (flags_bytes d ++ l)))) (its_bytes (to_be_bytes w64) (fields_in d).number n ends.known.3));
      kept = ends.kept;
      known = ends.known.0;
    }) ends.known.1 ends.known.2 (its_field (λ k. k < 2 ^ 64) (fields_in d).number n ends.known.3 small)

-- a number after some bytes of a reply
pub after_call : (start call before last : List ℕ) → (start ++ (call ++ before)) ++ last ≡ start ++ (call ++ (before ++ last))
after_call start call before last = append_assoc start (call ++ before) last ∙ ap (λ (l : List ℕ). start ++ l) (append_assoc call before last)

-- the last number of a tally
pub items_on : (p : ReadState) (n : ℕ) (text : List ℕ) → Ends (Long Items) p (to_be_bytes w64 n) text → n < 2 ^ 64 → Leads text (after_eight Items p n)
unfolding reply_text
items_on p n text ends small =
    let call : List ℕ = call_text (call_in p.draft) in
    let g : List ℕ = to_be_bytes w64 p.draft.counts.gets in
    let s : List ℕ = to_be_bytes w64 p.draft.counts.sets in
    let h : List ℕ = to_be_bytes w64 p.draft.counts.hits in
    let m : List ℕ = to_be_bytes w64 p.draft.counts.misses in
    let i : List ℕ = to_be_bytes w64 n in
    entry_on p (tally (record p.draft.counts { items = n })) text
    (ends.bytes ∙ ap (λ (l : List ℕ). front p.entries p.holds ++ l)
    (after_call (head p.draft) call (tally_code ∷ (g ++ (s ++ (h ++ m)))) i
    ∙ ap (λ (l : List ℕ). head p.draft ++ (call ++ tally_code ∷ l))
    (append_assoc g (s ++ (h ++ m)) i ∙ ap (λ (l : List ℕ). g ++ l) (append_assoc s (h ++ m) i ∙ ap (λ (l : List ℕ). s ++ l) (append_assoc h m i)))
    ∙ ap (λ (l : List ℕ). head p.draft ++ (call ++ tally_code ∷ l)) (sym (append-nil (g ++ (s ++ (h ++ (m ++ i))))))
    ∙ sym (append_assoc (head p.draft) call (tally_code ∷ ((g ++ (s ++ (h ++ (m ++ i)))) ++ [])))))
    ends.kept ends.known.0.0.0.0 tt ((tt, tt), (ends.known.0.0.0.1, ends.known.0.0.1, ends.known.0.1, ends.known.1, small))

pub eight_on : (field : LongField) (p : ReadState) (n : ℕ) (text : List ℕ) → Ends (Long field) p (to_be_bytes w64 n) text → n < 2 ^ 64 → lawful_long field p n ≡ true → Leads text (after_eight field p n)
unfolding reply_text
eight_on Stamp p n text ends small lawful =
    let is = stamp_true n p.past.stamp lawful in
    record {
      bytes = ended_by ends refl;
      kept = ends.kept;
      field = tt;
      known = (ends.known, is.0, is.1, is.2);
    }
eight_on Index p n text ends small lawful =
    let d : Draft = p.draft in
    let s : List ℕ = to_be_bytes w64 d.stamp in
    let h : List ℕ = to_be_bytes w32 d.shard in
    let c : List ℕ = to_be_bytes w32 d.conn in
    record {
      bytes = ended_by ends (ap (λ (l : List ℕ). 74 ∷ l) (append_assoc s (h ++ c) (to_be_bytes w64 n) ∙ ap (λ (l : List ℕ). s ++ l) (append_assoc h c (to_be_bytes w64 n))));
      kept = ends.kept;
      field = tt;
      known = (ends.known, below_true n (2 ^ 40) lawful);
    }
eight_on CallNumber p n text ends small lawful = call_number_on p n text ends small
eight_on FoundUnique p n text ends small lawful =
    let call : List ℕ = call_text (call_in p.draft) in
    let f : List ℕ = to_be_bytes w32 p.draft.found_flags in
    record {
      bytes = ended_by ends (append_assoc (head p.draft) (call ++ hit_code ∷ f) (to_be_bytes w64 n) ∙ ap (λ (l : List ℕ). head p.draft ++ l) (append_assoc call (hit_code ∷ f) (to_be_bytes w64 n)));
      kept = ends.kept;
      field = tt;
      known = (ends.known.0, ends.known.1, small);
    }
eight_on ReplyNumber p n text ends small lawful =
    let call : List ℕ = call_text (call_in p.draft) in
    entry_on p (Replies.Number n) text
    (ends.bytes ∙ ap (λ (l : List ℕ). front p.entries p.holds ++ l)
    (append_assoc (head p.draft) (call ++ number_code ∷ []) (to_be_bytes w64 n) ∙ ap (λ (l : List ℕ). head p.draft ++ l) (append_assoc call (number_code ∷ []) (to_be_bytes w64 n)) ∙ sym (append_assoc (head p.draft) call (number_code ∷ to_be_bytes w64 n))
    ∙ ap (λ (l : List ℕ). (head p.draft ++ call) ++ number_code ∷ l) (sym (append-nil (to_be_bytes w64 n)))))
    ends.kept ends.known tt ((tt, small), tt)
eight_on Gets p n text ends small lawful =
    let call : List ℕ = call_text (call_in p.draft) in
    record {
      bytes = ended_by ends (after_call (head p.draft) call (tally_code ∷ []) (to_be_bytes w64 n));
      kept = ends.kept;
      field = tt;
      known = (ends.known, small);
    }
eight_on Sets p n text ends small lawful =
    let call : List ℕ = call_text (call_in p.draft) in
    let g : List ℕ = to_be_bytes w64 p.draft.counts.gets in
    record {
      bytes = ended_by ends (after_call (head p.draft) call (tally_code ∷ g) (to_be_bytes w64 n));
      kept = ends.kept;
      field = tt;
      known = (ends.known, small);
    }
eight_on Hits p n text ends small lawful =
    let call : List ℕ = call_text (call_in p.draft) in
    let g : List ℕ = to_be_bytes w64 p.draft.counts.gets in
    let s : List ℕ = to_be_bytes w64 p.draft.counts.sets in
    record {
      bytes = ended_by ends (after_call (head p.draft) call (tally_code ∷ (g ++ s)) (to_be_bytes w64 n) ∙ ap (λ (l : List ℕ). head p.draft ++ (call ++ tally_code ∷ l)) (append_assoc g s (to_be_bytes w64 n)));
      kept = ends.kept;
      field = tt;
      known = (ends.known, small);
    }
eight_on Misses p n text ends small lawful =
    let call : List ℕ = call_text (call_in p.draft) in
    let g : List ℕ = to_be_bytes w64 p.draft.counts.gets in
    let s : List ℕ = to_be_bytes w64 p.draft.counts.sets in
    let h : List ℕ = to_be_bytes w64 p.draft.counts.hits in
    record {
      bytes = ended_by ends
          (after_call (head p.draft) call (tally_code ∷ (g ++ (s ++ h))) (to_be_bytes w64 n)
          ∙ ap (λ (l : List ℕ). head p.draft ++ (call ++ tally_code ∷ l)) (append_assoc g (s ++ h) (to_be_bytes w64 n) ∙ ap (λ (l : List ℕ). g ++ l) (append_assoc s h (to_be_bytes w64 n))));
      kept = ends.kept;
      field = tt;
      known = (ends.known, small);
    }
eight_on Items p n text ends small lawful = items_on p n text ends small
