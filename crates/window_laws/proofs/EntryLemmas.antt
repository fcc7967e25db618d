-- The entries of two windows: those of the second are of later connections and of later moments.
use Rattle.std.specs.Prelude.{◌&&◌}
use Rattle.std.proofs.Common.{◌≡◌, ℕ, ◌+◌, ◌<◌, ◌==◌, Bool, false, List, [], ◌∷◌, ◌++◌, map, filter, AllPairs, Contains, refl, sym, ap, ◌∙◌, arith}
use Rattle.std.proofs.lemmas.List.{append-nil, map-append}
use Rattle.std.proofs.lemmas.List.Elements.{All-map, All-weaker, All-contains_itself, filter-append}
use Rattle.std.proofs.lemmas.List.Kept.{AllPairs-cons}
use Rattle.std.proofs.lemmas.Simd.{map-map}
use Rattle.mc_allows.specs.declared.call_name.CallName.{CallName}
use Rattle.mc_allows.specs.declared.said.Said.{Said}
use Rattle.mc_allows.specs.Steps.{KeyStep, made, lost}
use Rattle.mc_answers.specs.Said.{said_calls}
use Rattle.mc_parse.specs.declared.command.Command.{Command}
use Rattle.mc_parse.specs.declared.shard_call.ShardCall.{ShardCall}
use Rattle.zy_times.proofs.RecordLemmas.{not_same}
use Rattle.zy_verdict.specs.Entries.{NamedCall, MadeCall, named_parts, named_from, is_of_session, of_session, said_to, is_at_key, placed_at, AreStepsOf}
use Rattle.zy_verdict.proofs.ListLemmas.{pairs_none, pairs_head, pairs_tail, none_kept, mapped_kept}
use Rattle.window_laws.proofs.RecordLemmas.{raised_same}
use Rattle.window_laws.proofs.StepLemmas.{renamed}

-- ---- names

-- the name of a call, if the connections are numbered from this number on
abbrev pub later_name : ℕ → CallName → CallName
later_name count name = record name { conn = count + name.conn }

-- the call, named so
abbrev pub later_call : ℕ → NamedCall → NamedCall
later_call count named = record { name = later_name count named.name; call = named.call }

-- the entry, named so, if this many records came before its window
abbrev pub later_entry : ℕ → ℕ → MadeCall → MadeCall
later_entry count moments e = record { named = later_call count e.named; said = e.said; moment = moments + e.moment }

module _ (count conn session : ℕ) where
  later_parts : (index part : ℕ) (calls : List ShardCall) → map (later_call count) (named_parts conn session index part calls) ≡ named_parts (count + conn) session index part calls
  later_parts index part [] = refl
  later_parts index part (call ∷ calls) =
      ap (λ (l : List NamedCall). later_call count (record { name = record { index = index; session = session; conn = conn; part = part }; call = call }) ∷ l) (later_parts index (part + 1) calls)

  pub later_names : (shards index : ℕ) (commands : List Command) → map (later_call count) (named_from shards conn session index commands) ≡ named_from shards (count + conn) session index commands
  later_names shards index [] = refl
  later_names shards index (command ∷ commands) =
      map-append (later_call count) (named_parts conn session index 0 (said_calls shards command)) (named_from shards conn session (index + 1) commands)
      ∙ ap (λ (l : List NamedCall). l ++ map (later_call count) (named_from shards conn session (index + 1) commands)) (later_parts index 0 (said_calls shards command))
      ∙ ap (λ (l : List NamedCall). named_parts (count + conn) session index 0 (said_calls shards command) ++ l) (later_names shards (index + 1) commands)

-- ---- sessions

module _ (count moments : ℕ) (entries later : List MadeCall) where
  -- the entries of both windows
  abbrev pub both : List MadeCall
  both = entries ++ map (later_entry count moments) later

  -- whether an entry is of a session
  abbrev in_session : ℕ → ℕ → MadeCall → Bool
  in_session conn session e = is_of_session conn session e.named.name

  none_later : (conn session : ℕ) → conn < count → of_session conn session (map (later_entry count moments) later) ≡ []
  none_later conn session within =
      none_kept (in_session conn session) (map (later_entry count moments) later)
      (All-map (λ (e : MadeCall). in_session conn session e ≡ false) (later_entry count moments) later
      (All-weaker (Contains later) (λ (e : MadeCall). in_session conn session (later_entry count moments e) ≡ false)
      (λ e _. ap (λ (b : Bool). b && e.named.name.session == session) (not_same (count + e.named.name.conn) conn (λ is. omega (arith, within, is))))
      later (All-contains_itself later)))

  pub first_of_session : (conn session : ℕ) → conn < count → of_session conn session both ≡ of_session conn session entries
  first_of_session conn session within =
      filter-append (in_session conn session) entries (map (later_entry count moments) later)
      ∙ ap (λ (l : List MadeCall). of_session conn session entries ++ l) (none_later conn session within)
      ∙ append-nil (of_session conn session entries)

  pub later_of_session : (conn session : ℕ) → of_session (count + conn) session entries ≡ [] → of_session (count + conn) session both ≡ map (later_entry count moments) (of_session conn session later)
  later_of_session conn session none =
      filter-append (in_session (count + conn) session) entries (map (later_entry count moments) later)
      ∙ ap (λ (l : List MadeCall). l ++ of_session (count + conn) session (map (later_entry count moments) later)) none
      ∙ sym (mapped_kept (later_entry count moments) (in_session (count + conn) session) later)
      ∙ (λ i. map (later_entry count moments) (filter (λ (e : MadeCall). raised_same count e.named.name.conn conn i && e.named.name.session == session) later))

  -- ---- what was said

  -- what was said to the calls of these entries that are of the command with this index
  abbrev said_among : ℕ → List MadeCall → List Said
  said_among index l = map (λ (e : MadeCall). e.said) (filter (λ (e : MadeCall). e.named.name.index == index) l)

  pub first_said : (conn session index : ℕ) → conn < count → said_to conn session index both ≡ said_to conn session index entries
  first_said conn session index within = ap (said_among index) (first_of_session conn session within)

  pub later_said : (conn session index : ℕ) → of_session (count + conn) session entries ≡ [] → said_to (count + conn) session index both ≡ said_to conn session index later
  later_said conn session index none =
      ap (said_among index) (later_of_session conn session none)
      ∙ ap (map (λ (e : MadeCall). e.said)) (sym (mapped_kept (later_entry count moments) (λ (e : MadeCall). e.named.name.index == index) (of_session conn session later)))
      ∙ map-map (λ (e : MadeCall). e.said) (later_entry count moments) (filter (λ (e : MadeCall). e.named.name.index == index) (of_session conn session later))

  -- ---- a key

  pub both_placed : (shards : ℕ) (key : List ℕ) → placed_at shards key both ≡ placed_at shards key entries ++ map (later_entry count moments) (placed_at shards key later)
  both_placed shards key =
      filter-append (λ (e : MadeCall). is_at_key shards key e.named.call) entries (map (later_entry count moments) later)
      ∙ ap (λ (l : List MadeCall). placed_at shards key entries ++ l) (sym (mapped_kept (later_entry count moments) (λ (e : MadeCall). is_at_key shards key e.named.call) later))

  -- the calls of both windows, by their names
  pub first_calls : (conn session : ℕ) → conn < count → map (λ (e : MadeCall). e.named) (of_session conn session both) ≡ map (λ (e : MadeCall). e.named) (of_session conn session entries)
  first_calls conn session within = ap (map (λ (e : MadeCall). e.named)) (first_of_session conn session within)

  pub later_calls : (conn session : ℕ) → of_session (count + conn) session entries ≡ []
      → map (λ (e : MadeCall). e.named) (of_session (count + conn) session both) ≡ map (later_call count) (map (λ (e : MadeCall). e.named) (of_session conn session later))
  later_calls conn session none =
      ap (map (λ (e : MadeCall). e.named)) (later_of_session conn session none)
      ∙ map-map (λ (e : MadeCall). e.named) (later_entry count moments) (of_session conn session later)
      ∙ sym (map-map (later_call count) (λ (e : MadeCall). e.named) (of_session conn session later))

-- ---- steps

module _ (count moments : ℕ) where
  pub later_steps : (entries : List MadeCall) (steps : List KeyStep) → AreStepsOf entries steps → AreStepsOf (map (later_entry count moments) entries) (map (renamed (later_name count)) steps)
  later_steps [] [] are = are
  later_steps [] (made name call said after ∷ steps) are = absurd are
  later_steps [] (lost ∷ steps) are = later_steps [] steps are
  later_steps (e ∷ entries) [] are = absurd are
  later_steps (e ∷ entries) (made name call said after ∷ steps) are =
      (ap (later_name count) are.0, are.1, are.2, later_steps entries steps are.3)
  later_steps (e ∷ entries) (lost ∷ steps) are = later_steps (e ∷ entries) steps are

pub both_steps : (entries others : List MadeCall) (steps later : List KeyStep) → AreStepsOf entries steps → AreStepsOf others later → AreStepsOf (entries ++ others) (steps ++ later)
both_steps [] others [] later are next = next
both_steps [] others (made name call said after ∷ steps) later are next = absurd are
both_steps [] [] (lost ∷ steps) later are next = both_steps [] [] steps later are next
both_steps [] (e ∷ others) (lost ∷ steps) later are next = both_steps [] (e ∷ others) steps later are next
both_steps (e ∷ entries) others [] later are next = absurd are
both_steps (e ∷ entries) others (made name call said after ∷ steps) later are next =
    (are.0, are.1, are.2, both_steps entries others steps later are.3 next)
both_steps (e ∷ entries) others (lost ∷ steps) later are next = both_steps (e ∷ entries) others steps later are next

-- ---- moments

pub mapped_pairs : {X Y : Type 0} (R : Y → Y → Type 0) (f : X → Y) (xs : List X) → AllPairs (λ x y. R (f x) (f y)) xs → AllPairs R (map f xs)
mapped_pairs R f [] h = pairs_none R
mapped_pairs R f (x ∷ xs) h =
    AllPairs-cons R (f x) (map f xs) (All-map (R (f x)) f xs (pairs_head (λ x y. R (f x) (f y)) x xs h))
    (mapped_pairs R f xs (pairs_tail (λ x y. R (f x) (f y)) x xs h))
