-- The entries of an explanation, made of those of a journal: their names, and what was said.
use Rattle.std.specs.Prelude.{◌==◌, ◌&&◌, not, filter, All}
use Rattle.std.proofs.Common.{◌≡◌, ℕ, suc, ◌+◌, ◌-◌, ◌<◌, ◌≤◌, Bool, true, false, cond, List, [], ◌∷◌, ◌++◌, length, take, drop, map, refl, ap, sym, ◌∙◌, subst, eq-eqb, ne_eqb, arith}
use Rattle.std.proofs.lemmas.List.{append-nil, map-append, length-append}
use Rattle.std.proofs.lemmas.List.Elements.{All-head, All-tail, All-weaker, filter-append}
use mathlib.Core.Logic.{dite}
use native.Mathlib.Decide.{ℕ_discrete}
use Rattle.zy_base.proofs.FilterLemmas.{filter-here, filter-other}
use Rattle.mc_calls.specs.declared.entry.Entry.{Entry}
use Rattle.mc_calls.specs.declared.entry.Tag.{Tag}
use Rattle.mc_calls.specs.Order.{of_connection}
use Rattle.mc_calls.proofs.EntryLemmas.{of_connection-here, of_connection-other}
use Rattle.mc_parse.specs.declared.command.Command.{Command}
use Rattle.mc_parse.specs.declared.shard_call.ShardCall.{ShardCall}
use Rattle.mc_parse.specs.Calls.{Due, due, due_at, due_from, due_of, dues_of, tagged, tag_of, calls_of}
use Rattle.mc_parse.proofs.CallLemmas.{due-append, due_from-append}
use Rattle.mc_allows.specs.declared.call_name.CallName.{CallName}
use Rattle.mc_allows.specs.declared.said.Said.TheVariants.{Replied}
use Rattle.mc_answers.specs.Said.{said_calls}
use Rattle.zy_frame.specs.Cut.{commands_of}
use Rattle.zy_run.specs.Commands.{commands_over}
use Rattle.zy_run.specs.Output.{commands_before}
use Rattle.zy_verdict.specs.Entries.{NamedCall, MadeCall, name_at, named_parts, named_from, is_of_session, of_session}
use Rattle.zy_verdict.proofs.ListLemmas.{none_kept, mapped_kept}
use Rattle.judge_laws.proofs.SaidLemmas.{IsKeyed}
use Rattle.judge_laws.proofs.DueLemmas.{is_tally, IsNoTally, IsTally, Tallies, none, all, tallies, IsOfCommands, due_of_commands}
use Rattle.judge_laws.proofs.PlaceLemmas.{session_at, IsIn, stream_at, before_next, placed, is_session, commands_split}

-- ---- the entries

-- the name of the call with this tag, if these are the streams of each connection
abbrev pub name_of : (ℕ → List (List ℕ)) → Tag → CallName
name_of streams tag =
    let session = session_at (streams tag.conn) tag.index in
    name_at tag.conn session (tag.index - commands_before session (streams tag.conn)) tag.part

-- an expected call, with its name
abbrev pub named_by : (ℕ → List (List ℕ)) → Due → NamedCall
named_by streams d = record { name = name_of streams d.tag; call = d.call }

-- the entry at an offset, with its name and its moment
abbrev pub made_at : (ℕ → List (List ℕ)) → (ℕ → ℕ) → ℕ → Entry → MadeCall
made_at streams moment at e = record { named = named_by streams (due_of e); said = Replied e.reply; moment = moment at }

-- the entries from an offset on, without the tallies of `stats`
abbrev pub made_from : (ℕ → List (List ℕ)) → (ℕ → ℕ) → ℕ → List Entry → List MadeCall
made_from streams moment at [] = []
made_from streams moment at (e ∷ es) = cond (is_tally e.call) (made_from streams moment (at + 1) es) (made_at streams moment at e ∷ made_from streams moment (at + 1) es)

-- ---- tests, one after the other

pub kept_twice : {X : Type 0} (p q : X → Bool) (xs : List X) → filter p (filter q xs) ≡ filter (λ x. q x && p x) xs
kept_twice p q [] = refl
kept_twice p q (x ∷ xs) = go (kept_twice p q xs) (q x) (p x) refl refl
  where
    go : filter p (filter q xs) ≡ filter (λ y. q y && p y) xs → (a b : Bool) → q x ≡ a → p x ≡ b → filter p (filter q (x ∷ xs)) ≡ filter (λ y. q y && p y) (x ∷ xs)
    go rest true true first second =
        ap (filter p) (filter-here q x xs first) ∙ filter-here p x (filter q xs) second ∙ ap (λ l. x ∷ l) rest
        ∙ sym (filter-here (λ y. q y && p y) x xs ((λ i. first i && second i)))
    go rest true false first second =
        ap (filter p) (filter-here q x xs first) ∙ filter-other p x (filter q xs) second ∙ rest
        ∙ sym (filter-other (λ y. q y && p y) x xs ((λ i. first i && second i)))
    go rest false b first second =
        ap (filter p) (filter-other q x xs first) ∙ rest ∙ sym (filter-other (λ y. q y && p y) x xs (ap (λ (c : Bool). c && p x) first))

pub kept_same : {X : Type 0} (p q : X → Bool) (xs : List X) → All (λ x. p x ≡ q x) xs → filter p xs ≡ filter q xs
kept_same p q [] same = refl
kept_same p q (x ∷ xs) same =
    ap (λ b. cond b (x ∷ filter p xs) (filter p xs)) (All-head (λ y. p y ≡ q y) x xs same) ∙ ap (λ l. cond (q x) (x ∷ l) l) (kept_same p q xs (All-tail (λ y. p y ≡ q y) x xs same))

pub map_twice : {X Y Z : Type 0} (f : Y → Z) (g : X → Y) (xs : List X) → map (λ x. f (g x)) xs ≡ map f (map g xs)
map_twice f g [] = refl
map_twice f g (x ∷ xs) = ap (λ l. f (g x) ∷ l) (map_twice f g xs)

-- what is kept of the entries, if neither the test nor what is taken of them depends on the moment
pub made_kept : {X : Type 0} (streams : ℕ → List (List ℕ)) (moment : ℕ → ℕ) (p : MadeCall → Bool) (q : Entry → Bool) (f : MadeCall → X) (g : Entry → X)
    → ((at : ℕ) (e : Entry) → p (made_at streams moment at e) ≡ q e) → ((at : ℕ) (e : Entry) → f (made_at streams moment at e) ≡ g e)
    → (at : ℕ) (es : List Entry) → map f (filter p (made_from streams moment at es)) ≡ map g (filter (λ (e : Entry). q e && not (is_tally e.call)) es)
made_kept streams moment p q f g tests takes at [] = refl
made_kept {X} streams moment p q f g tests takes at (e ∷ es) = go (made_kept streams moment p q f g tests takes (at + 1) es) (is_tally e.call) (q e) (tests at e)
  where
    more : List MadeCall
    more = made_from streams moment (at + 1) es

    left : List Entry
    left = filter (λ (x : Entry). q x && not (is_tally x.call)) es

    go : map f (filter p more) ≡ map g left → (tally passes : Bool) → p (made_at streams moment at e) ≡ passes → map f (filter p (cond tally more (made_at streams moment at e ∷ more))) ≡ map g (cond (passes && not tally) (e ∷ left) left)
    go rest true true is = rest
    go rest true false is = rest
    go rest false true is = ap (map f) (filter-here p (made_at streams moment at e) more is) ∙ (λ i. takes at e i ∷ rest i)
    go rest false false is = ap (map f) (filter-other p (made_at streams moment at e) more is) ∙ rest

-- a test of expected calls that only those of one connection pass
own_kept : (conn : ℕ) (p : Due → Bool) → ((d : Due) → (d.tag.conn ≡ conn → ⊥) → p d ≡ false) → (es : List Entry) → filter p (dues_of es) ≡ filter p (dues_of (of_connection conn es))
own_kept conn p others [] = refl
own_kept conn p others (e ∷ es) = dite (ℕ_discrete e.tag.conn conn)
    (λ same. ap (λ l. cond (p (due_of e)) (due_of e ∷ l) l) (own_kept conn p others es) ∙ ap (λ l. filter p (dues_of l)) (sym (of_connection-here conn e es same)))
    (λ other. filter-other p (due_of e) (dues_of es) (others (due_of e) other) ∙ own_kept conn p others es ∙ ap (λ l. filter p (dues_of l)) (sym (of_connection-other conn e es other)))

-- ---- the names of a session

module _ (shards conn session : ℕ) (streams : ℕ → List (List ℕ)) where
  abbrev own : List (List ℕ)
  own = streams conn

  abbrev before : ℕ
  before = commands_before session own

  -- an expected call is of the session, and is no tally
  abbrev is_here : Due → Bool
  is_here d = is_of_session conn session (name_of streams d.tag) && not (is_tally d.call.call)

  both : (a b : Bool) → a ≡ true → b ≡ false → a && not b ≡ true
  both a b one two = (λ i. one i && not (two i))

  first_fails : (a b : Bool) → a ≡ false → a && b ≡ false
  first_fails a b is = ap (λ (c : Bool). c && b) is

  last_fails : (a b : Bool) → b ≡ true → a && not b ≡ false
  last_fails true b is = ap not is
  last_fails false b is = refl

  of_here : (d : Due) → d.tag.conn ≡ conn → IsIn own session d.tag.index → is_of_session conn session (name_of streams d.tag) ≡ true
  of_here d same is =
      let at = is_session own session d.tag.index is in
      let found : session_at (streams d.tag.conn) d.tag.index ≡ session = ap (λ (c : ℕ). session_at (streams c) d.tag.index) same ∙ at in
      (λ i. eq-eqb d.tag.conn conn same i && eq-eqb (session_at (streams d.tag.conn) d.tag.index) session found i)

  -- a call of another session is not here
  not_here : (d : Due) → d.tag.conn ≡ conn → d.tag.index < length (commands_over own) → (IsIn own session d.tag.index → ⊥) → is_here d ≡ false
  not_here d same within apart =
      first_fails (is_of_session conn session (name_of streams d.tag)) (not (is_tally d.call.call))
      (
      let other : (session_at (streams d.tag.conn) d.tag.index == session) ≡ false = ne_eqb (session_at (streams d.tag.conn) d.tag.index) session
      (λ is. apart (subst (λ (s : ℕ). IsIn own s d.tag.index) (ap (λ (c : ℕ). session_at (streams c) d.tag.index) (sym same) ∙ is) (placed own d.tag.index within))) in
      ap (λ (b : Bool). (d.tag.conn == conn) && b) other ∙ never (d.tag.conn == conn)
      )
    where
      never : (b : Bool) → b && false ≡ false
      never true = refl
      never false = refl

  name_here : (tag : Tag) → tag.conn ≡ conn → (index : ℕ) → tag.index ≡ before + index → IsIn own session tag.index → name_of streams tag ≡ name_at conn session index tag.part
  name_here tag same index number is =
      let at : session_at (streams tag.conn) tag.index ≡ session = ap (λ (c : ℕ). session_at (streams c) tag.index) same ∙ is_session own session tag.index is in
      let left : tag.index - commands_before (session_at (streams tag.conn) tag.index) (streams tag.conn) ≡ index =
      (λ i. tag.index - commands_before (at i) (streams (same i))) ∙ omega (arith, number) in
      (λ i. name_at (same i) (at i) (left i) tag.part)

  -- the calls of a command of the session that has no tally
  parts_named : (index part : ℕ) (calls : List ShardCall) → IsIn own session (before + index) → All IsNoTally calls
      → map (named_by streams) (filter is_here (tagged conn (before + index) part calls)) ≡ named_parts conn session index part calls
  parts_named index part [] is plain = refl
  parts_named index part (call ∷ calls) is plain =
      let first : Due = record { tag = tag_of conn (before + index) part; call = call } in
      let rest = tagged conn (before + index) (part + 1) calls in
      ap (map (named_by streams)) (filter-here is_here first rest (both (is_of_session conn session (name_of streams first.tag)) (is_tally call.call) (of_here first refl is) (All-head IsNoTally call calls plain)))
      ∙ (λ i. record { name = name_here first.tag refl index refl is i; call = call } ∷ parts_named index (part + 1) calls is (All-tail IsNoTally call calls plain) i)

  -- tallies are left out
  parts_bare : (index part : ℕ) (calls : List ShardCall) → All IsTally calls → filter is_here (tagged conn index part calls) ≡ []
  parts_bare index part [] are = refl
  parts_bare index part (call ∷ calls) are =
      let first : Due = record { tag = tag_of conn index part; call = call } in
      filter-other is_here first (tagged conn index (part + 1) calls)
      (last_fails (is_of_session conn session (name_of streams first.tag)) (is_tally call.call) (All-head IsTally call calls are))
      ∙ parts_bare index (part + 1) calls (All-tail IsTally call calls are)

  command_named : (index : ℕ) (command : Command) → IsIn own session (before + index) → Tallies shards command
      → map (named_by streams) (filter is_here (due_at shards conn (before + index) command)) ≡ named_parts conn session index 0 (said_calls shards command)
  command_named index command is (none said by plain) = parts_named index 0 (calls_of shards command) is plain ∙ ap (named_parts conn session index 0) (sym said)
  command_named index command is (all stats are) =
      ap (map (named_by streams)) (parts_bare (before + index) 0 (calls_of shards command) are) ∙ ap (λ (c : Command). named_parts conn session index 0 (said_calls shards c)) (sym stats)

  commands_named : (index : ℕ) (commands : List Command) → All IsKeyed commands → before + index + length commands ≤ commands_before (session + 1) own
      → map (named_by streams) (filter is_here (due_from shards conn (before + index) commands)) ≡ named_from shards conn session index commands
  commands_named index [] keyed within = refl
  commands_named index (command ∷ commands) keyed within =
      let here : IsIn own session (before + index) = record { from = omega arith; until = omega (arith, within) } in
      let next : before + index + 1 ≡ before + (index + 1) = omega arith in
      let mine = due_at shards conn (before + index) command in
      let later = due_from shards conn (before + index + 1) commands in
      ap (map (named_by streams)) (filter-append is_here mine later) ∙ map-append (named_by streams) (filter is_here mine) (filter is_here later)
      ∙ (λ i. command_named index command here (tallies shards command (All-head IsKeyed command commands keyed)) i ++ map (named_by streams) (filter is_here (due_from shards conn (next i) commands)))
      ∙ ap (λ (l : List NamedCall). named_parts conn session index 0 (said_calls shards command) ++ l)
      (commands_named (index + 1) commands (All-tail IsKeyed command commands keyed) (omega (arith, within)))

  -- the calls of commands of other sessions are left out
  others_left : (first : ℕ) (commands : List Command) → first + length commands ≤ length (commands_over own) → ((index : ℕ) → first ≤ index → index < first + length commands → IsIn own session index → ⊥)
      → filter is_here (due_from shards conn first commands) ≡ []
  others_left first commands within apart =
      none_kept is_here (due_from shards conn first commands)
      (All-weaker (IsOfCommands conn first (first + length commands)) (λ d. is_here d ≡ false)
      (λ d is. let low = is.1 in let high = is.2 in not_here d is.0 (omega (arith, high, within)) (apart d.tag.index low high)) (due_from shards conn first commands) (due_of_commands shards conn first commands))

  -- the expected calls of a session, of all of its connection
  pub session_named : All IsKeyed (commands_of (stream_at own session)) → map (named_by streams) (filter is_here (due shards conn (commands_over own))) ≡ named_from shards conn session 0 (commands_of (stream_at own session))
  session_named keyed = named
    where
      front : List Command
      front = commands_over (take session own)

      mine : List Command
      mine = commands_of (stream_at own session)

      back : List Command
      back = commands_over (drop (suc session) own)

      split : commands_over own ≡ front ++ (mine ++ back)
      split = commands_split own session

      long : length (commands_over own) ≡ length front + (length mine + length back)
      long = ap (λ (l : List Command). length l) split ∙ length-append front (mine ++ back) ∙ ap (λ (n : ℕ). length front + n) (length-append mine back)

      next : commands_before (session + 1) own ≡ before + length mine
      next = before_next own session

      front_left : filter is_here (due shards conn front) ≡ []
      front_left = others_left 0 front (omega (arith, long)) (λ index low high is. let from = is.from in omega (arith, high, from))

      back_left : filter is_here (due_from shards conn (length front + length mine) back) ≡ []
      back_left = others_left (length front + length mine) back (omega (arith, long)) (λ index low high is. let until = is.until in omega (arith, low, until, next))

      start : length front ≡ before + 0
      start = omega arith

      named : map (named_by streams) (filter is_here (due shards conn (commands_over own))) ≡ named_from shards conn session 0 mine
      named =
          ap (λ (l : List Command). map (named_by streams) (filter is_here (due shards conn l))) split
          ∙ ap (λ (l : List Due). map (named_by streams) (filter is_here l)) (due-append shards conn front (mine ++ back) ∙ ap (λ (l : List Due). due shards conn front ++ l) (due_from-append shards conn (length front) mine back))
          ∙ ap (map (named_by streams)) (filter-append is_here (due shards conn front) (due_from shards conn (length front) mine ++ due_from shards conn (length front + length mine) back)
          ∙ ap (λ (l : List Due). l ++ filter is_here (due_from shards conn (length front) mine ++ due_from shards conn (length front + length mine) back)) front_left
          ∙ filter-append is_here (due_from shards conn (length front) mine) (due_from shards conn (length front + length mine) back)
          ∙ ap (λ (l : List Due). filter is_here (due_from shards conn (length front) mine) ++ l) back_left
          ∙ append-nil (filter is_here (due_from shards conn (length front) mine)))
          ∙ ap (λ (n : ℕ). map (named_by streams) (filter is_here (due_from shards conn n mine))) start
          ∙ commands_named 0 mine keyed (omega (arith, next))

  -- the entries of a session are named as its calls
  pub entries_named : (moment : ℕ → ℕ) (es : List Entry) → All IsKeyed (commands_of (stream_at own session)) → dues_of (of_connection conn es) ≡ due shards conn (commands_over own)
      → map (λ (e : MadeCall). e.named) (of_session conn session (made_from streams moment 0 es)) ≡ named_from shards conn session 0 (commands_of (stream_at own session))
  entries_named moment es keyed calls =
      made_kept streams moment (λ (e : MadeCall). is_of_session conn session e.named.name) (λ (e : Entry). is_of_session conn session (name_of streams e.tag))
      (λ (e : MadeCall). e.named) (λ (e : Entry). named_by streams (due_of e)) (λ at e. refl) (λ at e. refl) 0 es
      ∙ map_twice (named_by streams) due_of (filter (λ (e : Entry). is_here (due_of e)) es) ∙ ap (map (named_by streams)) (mapped_kept due_of is_here es)
      ∙ ap (map (named_by streams)) (own_kept conn is_here (λ d other. first_fails (is_of_session conn session (name_of streams d.tag)) (not (is_tally d.call.call))
      (ap (λ (b : Bool). b && (session_at (streams d.tag.conn) d.tag.index == session)) (ne_eqb d.tag.conn conn other))) es)
      ∙ ap (λ (l : List Due). map (named_by streams) (filter is_here l)) calls ∙ session_named keyed
