-- The calls of a session's commands, by their names.
use Rattle.std.specs.List.{slice_get}
use Rattle.std.proofs.Common.{◌≡◌, inl, inr, ℕ, zero, suc, ◌+◌, ◌≤◌, ◌==◌, Bool, true, false, List, [], ◌∷◌, ◌++◌, filter, All, AllPairs, Contains, Some, refl, sym, ap, ◌∙◌, subst, arith}
use Rattle.std.proofs.lemmas.List.{append-nil}
use Rattle.std.proofs.lemmas.List.Elements.{All-nil, All-cons, All-append, All-weaker, filter-append, Contains-append_left, Contains-append_right}
use Rattle.std.proofs.lemmas.List.Kept.{AllPairs-cons}
use Rattle.mc_answers.specs.Said.{said_calls}
use Rattle.mc_parse.specs.declared.command.Command.{Command}
use Rattle.mc_parse.specs.declared.shard_call.ShardCall.{ShardCall}
use Rattle.zy_times.proofs.RecordLemmas.{is_same, not_same}
use Rattle.zy_verdict.specs.Entries.{NamedCall, name_at, named_parts, named_from}
use Rattle.zy_verdict.specs.Course.{IsEarlier}
use Rattle.zy_verdict.proofs.ListLemmas.{pairs_none, pairs_append, all_kept, none_kept}

-- ---- one command

-- the call is one of the command with this index, from a part on
record IsFromPart (index part : ℕ) (n : NamedCall) : Type 0 where
  is : n.name.index ≡ index
  from : part ≤ n.name.part

-- a call comes before another
abbrev pub NamedBefore : NamedCall → NamedCall → Type 0
NamedBefore one other = IsEarlier one.name other.name

module _ (conn session index : ℕ) where
  parts_from : (part : ℕ) (calls : List ShardCall) → All (IsFromPart index part) (named_parts conn session index part calls)
  parts_from part [] = All-nil (IsFromPart index part)
  parts_from part (call ∷ calls) =
      All-cons (IsFromPart index part) (record { name = name_at conn session index part; call = call }) (named_parts conn session index (part + 1) calls)
      (record { is = refl; from = omega arith })
      (All-weaker (IsFromPart index (part + 1)) (IsFromPart index part)
      (λ n h. let low = h.from in record { is = h.is; from = omega (arith, low) }) (named_parts conn session index (part + 1) calls) (parts_from (part + 1) calls))

  parts_rise : (part : ℕ) (calls : List ShardCall) → AllPairs NamedBefore (named_parts conn session index part calls)
  parts_rise part [] = pairs_none NamedBefore
  parts_rise part (call ∷ calls) =
      let first : NamedCall = record { name = name_at conn session index part; call = call } in
      AllPairs-cons NamedBefore first (named_parts conn session index (part + 1) calls)
      (All-weaker (IsFromPart index (part + 1)) (NamedBefore first)
      (λ n h. let low = h.from in inr (sym h.is, omega (arith, low))) (named_parts conn session index (part + 1) calls) (parts_from (part + 1) calls))
      (parts_rise (part + 1) calls)

  -- the call at an offset is the part with this number
  pub part_at : (part : ℕ) (calls : List ShardCall) (k : ℕ) (n : NamedCall) → slice_get (named_parts conn session index part calls) k ≡ Some n
      → (n.name.part ≡ part + k) × (slice_get calls k ≡ Some n.call)
  part_at part [] k n is = absurd (cc)
  part_at part (call ∷ calls) zero n is =
      let same : record { name = name_at conn session index part; call = call } ≡ n = cc in
      subst (λ (m : NamedCall). (m.name.part ≡ part + 0) × (slice_get (call ∷ calls) 0 ≡ Some m.call)) same (omega arith, refl)
  part_at part (call ∷ calls) (suc k) n is =
      let rest = part_at (part + 1) calls k n is in
      let number = rest.0 in
      (omega (arith, number), rest.1)

  pub has_part : (part : ℕ) (calls : List ShardCall) (k : ℕ) (call : ShardCall) → slice_get calls k ≡ Some call
      → Contains (named_parts conn session index part calls) (record { name = name_at conn session index (part + k); call = call })
  has_part part [] k call is = absurd (cc)
  has_part part (own ∷ calls) zero call is =
      let same : own ≡ call = cc in
      let number : part ≡ part + 0 = omega arith in
      subst (λ (p : ℕ). Contains (named_parts conn session index part (own ∷ calls)) (record { name = name_at conn session index p; call = call })) number
      (subst (λ (c : ShardCall). Contains (named_parts conn session index part (own ∷ calls)) (record { name = name_at conn session index part; call = c })) same (0, omega arith, refl))
  has_part part (own ∷ calls) (suc k) call is =
      let rest = has_part (part + 1) calls k call is in
      let number : part + 1 + k ≡ part + suc k = omega arith in
      let moved = subst (λ (p : ℕ). Contains (named_parts conn session index (part + 1) calls) (record { name = name_at conn session index p; call = call })) number rest in
      let within = moved.1 in
      (suc moved.0, omega (arith, within), moved.2)

-- ---- all commands

-- the call is one of a command from an index on
abbrev IsFromIndex : ℕ → NamedCall → Type 0
IsFromIndex index n = index ≤ n.name.index

-- the call belongs to a command of the list, whose first has this index
pub record IsOfList (shards conn session index : ℕ) (commands : List Command) (n : NamedCall) : Type 0 where
  pub command : Command
  pub at : ℕ
  pub is : slice_get commands at ≡ Some command
  pub number : n.name.index ≡ index + at
  pub part : slice_get (said_calls shards command) n.name.part ≡ Some n.call

module _ (shards conn session : ℕ) where
  from_index : (index : ℕ) (commands : List Command) → All (IsFromIndex index) (named_from shards conn session index commands)
  from_index index [] = All-nil (IsFromIndex index)
  from_index index (command ∷ commands) =
      All-append (IsFromIndex index) (named_parts conn session index 0 (said_calls shards command)) (named_from shards conn session (index + 1) commands)
      (All-weaker (IsFromPart index 0) (IsFromIndex index) (λ n h. let is = h.is in omega (arith, is)) (named_parts conn session index 0 (said_calls shards command))
      (parts_from conn session index 0 (said_calls shards command)))
      (All-weaker (IsFromIndex (index + 1)) (IsFromIndex index) (λ n h. omega (arith, h)) (named_from shards conn session (index + 1) commands) (from_index (index + 1) commands))

  -- the calls of a session are in order
  pub names_rise : (index : ℕ) (commands : List Command) → AllPairs NamedBefore (named_from shards conn session index commands)
  names_rise index [] = pairs_none NamedBefore
  names_rise index (command ∷ commands) =
      pairs_append NamedBefore (named_parts conn session index 0 (said_calls shards command)) (named_from shards conn session (index + 1) commands)
      (parts_rise conn session index 0 (said_calls shards command)) (names_rise (index + 1) commands)
      (All-weaker (IsFromPart index 0) (λ x. All (NamedBefore x) (named_from shards conn session (index + 1) commands))
      (λ x h. let own = h.is in All-weaker (IsFromIndex (index + 1)) (NamedBefore x) (λ y high. inl (omega (arith, own, high))) (named_from shards conn session (index + 1) commands) (from_index (index + 1) commands))
      (named_parts conn session index 0 (said_calls shards command)) (parts_from conn session index 0 (said_calls shards command)))

  parts_of : (index part : ℕ) (command : Command) (commands : List Command) (calls : List ShardCall)
      → ((k : ℕ) (call : ShardCall) → slice_get calls k ≡ Some call → slice_get (said_calls shards command) (part + k) ≡ Some call)
      → All (IsOfList shards conn session index (command ∷ commands)) (named_parts conn session index part calls)
  parts_of index part command commands [] each = All-nil (IsOfList shards conn session index (command ∷ commands))
  parts_of index part command commands (call ∷ calls) each =
      let number : part + 0 ≡ part = omega arith in
      let here = subst (λ (p : ℕ). slice_get (said_calls shards command) p ≡ Some call) number (each 0 call refl) in
      All-cons (IsOfList shards conn session index (command ∷ commands)) (record { name = name_at conn session index part; call = call }) (named_parts conn session index (part + 1) calls)
      (record { command = command; at = 0; is = refl; number = omega arith; part = here })
      (parts_of index (part + 1) command commands calls
      (λ k other is. let on : part + suc k ≡ part + 1 + k = omega arith in subst (λ (p : ℕ). slice_get (said_calls shards command) p ≡ Some other) on (each (suc k) other is)))

  -- each call belongs to a command of the list
  pub names_of : (index : ℕ) (commands : List Command) → All (IsOfList shards conn session index commands) (named_from shards conn session index commands)
  names_of index [] = All-nil (IsOfList shards conn session index [])
  names_of index (command ∷ commands) =
      All-append (IsOfList shards conn session index (command ∷ commands)) (named_parts conn session index 0 (said_calls shards command)) (named_from shards conn session (index + 1) commands)
      (parts_of index 0 command commands (said_calls shards command)
      (λ k call is. let on : k ≡ 0 + k = omega arith in subst (λ (p : ℕ). slice_get (said_calls shards command) p ≡ Some call) on is))
      (All-weaker (IsOfList shards conn session (index + 1) commands) (IsOfList shards conn session index (command ∷ commands))
      (λ n h. let number = h.number in record { command = h.command; at = suc h.at; is = h.is; number = omega (arith, number); part = h.part })
      (named_from shards conn session (index + 1) commands) (names_of (index + 1) commands))

  -- each call of each command is there
  pub has_name : (index : ℕ) (commands : List Command) (at : ℕ) (command : Command) (k : ℕ) (call : ShardCall)
      → slice_get commands at ≡ Some command → slice_get (said_calls shards command) k ≡ Some call
      → Contains (named_from shards conn session index commands) (record { name = name_at conn session (index + at) (0 + k); call = call })
  has_name index [] at command k call is part = absurd (cc)
  has_name index (own ∷ commands) zero command k call is part =
      let same : own ≡ command = cc in
      let number : index ≡ index + 0 = omega arith in
      let here = has_part conn session index 0 (said_calls shards own) k call (subst (λ (c : Command). slice_get (said_calls shards c) k ≡ Some call) (sym same) part) in
      subst (λ (i : ℕ). Contains (named_from shards conn session index (own ∷ commands)) (record { name = name_at conn session i (0 + k); call = call })) number
      (Contains-append_left (named_parts conn session index 0 (said_calls shards own)) (named_from shards conn session (index + 1) commands) (record { name = name_at conn session index (0 + k); call = call }) here)
  has_name index (own ∷ commands) (suc at) command k call is part =
      let number : index + 1 + at ≡ index + suc at = omega arith in
      let rest = has_name (index + 1) commands at command k call is part in
      subst (λ (i : ℕ). Contains (named_from shards conn session index (own ∷ commands)) (record { name = name_at conn session i (0 + k); call = call })) number
      (Contains-append_right (named_parts conn session index 0 (said_calls shards own)) (named_from shards conn session (index + 1) commands) (record { name = name_at conn session (index + 1 + at) (0 + k); call = call }) rest)

  -- whether a call is of the command with an index
  abbrev pub is_of_command : ℕ → NamedCall → Bool
  is_of_command index n = n.name.index == index

  -- the calls of one command
  pub names_at : (index : ℕ) (commands : List Command) (at : ℕ) (command : Command) → slice_get commands at ≡ Some command
      → filter (is_of_command (index + at)) (named_from shards conn session index commands) ≡ named_parts conn session (index + at) 0 (said_calls shards command)
  names_at index [] at command is = absurd (cc)
  names_at index (own ∷ commands) zero command is =
      let same : own ≡ command = cc in
      let number : index ≡ index + 0 = omega arith in
      subst (λ (i : ℕ). filter (is_of_command i) (named_from shards conn session index (own ∷ commands)) ≡ named_parts conn session i 0 (said_calls shards command)) number
      (filter-append (is_of_command index) (named_parts conn session index 0 (said_calls shards own)) (named_from shards conn session (index + 1) commands)
      ∙ ap (λ (l : List NamedCall). l ++ filter (is_of_command index) (named_from shards conn session (index + 1) commands))
      (all_kept (is_of_command index) (named_parts conn session index 0 (said_calls shards own))
      (All-weaker (IsFromPart index 0) (λ n. is_of_command index n ≡ true) (λ n h. is_same n.name.index index h.is) (named_parts conn session index 0 (said_calls shards own)) (parts_from conn session index 0 (said_calls shards own))))
      ∙ ap (λ (l : List NamedCall). named_parts conn session index 0 (said_calls shards own) ++ l)
      (none_kept (is_of_command index) (named_from shards conn session (index + 1) commands)
      (All-weaker (IsFromIndex (index + 1)) (λ n. is_of_command index n ≡ false) (λ n h. not_same n.name.index index (λ e. omega (arith, e, h))) (named_from shards conn session (index + 1) commands) (from_index (index + 1) commands)))
      ∙ append-nil (named_parts conn session index 0 (said_calls shards own))
      ∙ ap (λ (c : Command). named_parts conn session index 0 (said_calls shards c)) same)
  names_at index (own ∷ commands) (suc at) command is =
      let number : index + 1 + at ≡ index + suc at = omega arith in
      subst (λ (i : ℕ). filter (is_of_command i) (named_from shards conn session index (own ∷ commands)) ≡ named_parts conn session i 0 (said_calls shards command)) number
      (filter-append (is_of_command (index + 1 + at)) (named_parts conn session index 0 (said_calls shards own)) (named_from shards conn session (index + 1) commands)
      ∙ ap (λ (l : List NamedCall). l ++ filter (is_of_command (index + 1 + at)) (named_from shards conn session (index + 1) commands))
      (none_kept (is_of_command (index + 1 + at)) (named_parts conn session index 0 (said_calls shards own))
      (All-weaker (IsFromPart index 0) (λ n. is_of_command (index + 1 + at) n ≡ false) (λ n h. let own_index = h.is in not_same n.name.index (index + 1 + at) (λ e. omega (arith, e, own_index))) (named_parts conn session index 0 (said_calls shards own)) (parts_from conn session index 0 (said_calls shards own))))
      ∙ names_at (index + 1) commands at command is)
