-- What is gathered from the connections, one after another.
use Rattle.std.specs.Prelude.{map, flat_map, option_map, slice_set}
use Rattle.std.specs.List.{range_with_len}
use Rattle.std.proofs.Common.{◌≡◌, ◌≢◌, ℕ, ◌+◌, ◌<◌, List, [], ◌∷◌, ◌++◌, length, drop, Some, slice_get, refl, sym, ap, ◌∙◌, subst, arith, append-nil, get_or}
use mathlib.Core.Logic.{dite}
use native.Mathlib.Decide.{ℕ_discrete, dec_lt}
use Rattle.std.proofs.Math.Numerals.{add-one}
use Rattle.std.proofs.lemmas.Grind.{flat_map-append}
use Rattle.std.proofs.lemmas.List.{map-append}
use Rattle.std.proofs.lemmas.Option.{slice_get_within, slice_get_read}
use Rattle.std.proofs.lemmas.List.FromFn.{length-map-range_with_len}
use Rattle.mc_calls.specs.declared.hold.Hold.{Hold}
use Rattle.zy_base.proofs.SetLemmas.{slice_get-set, slice_get-set_other}
use Rattle.zy_rx.specs.Flow.{home_of}
use Rattle.atomic_table.specs.Seated.{TableId}
use Rattle.zy_conn.specs.Block.{Blocked}
use Rattle.zy_finish.specs.Left.{Left, session_texts}
use Rattle.zy_finish.specs.Served.{all_holds, all_sent}
use Rattle.zy_home.specs.End.{ended_output}
use Rattle.zy_finish.specs.declared.rest.Rest.{Rest}
use Rattle.zy_finish.specs.declared.rest.Last.{Last}
use Rattle.zy_finish.specs.declared.gathered.Gathered.{Gathered}
use Rattle.zy_finish.specs.Part.{session_ends}
use Rattle.zy_finish.specs.Rest.{place_of, rest_past, AreTaken, blocks_left, ends_left, block_of, end_of, calls_of_block, holds_in, texts_in, ends_in, left_of, joined_to, IsThere, IsBlockKept, Gathers, HasGathered}
use Rattle.zy_finish.proofs.PlaceLemmas.{drop_at_get, range_next, below_here, below_other}

-- ---- one further connection

pub all_holds-next : (n : ℕ) (left : ℕ → Left) → all_holds (n + 1) left ≡ all_holds n left ++ (left n).holds
all_holds-next n left =
    ap (flat_map (λ conn. (left conn).holds)) (range_next n) ∙ flat_map-append (λ conn. (left conn).holds) (range_with_len 0 n) (n ∷ [])
    ∙ ap (λ (l : List Hold). all_holds n left ++ l) (append-nil (left n).holds)

pub all_sent-next : (n : ℕ) (left : ℕ → Left) → all_sent (n + 1) left ≡ all_sent n left ++ session_texts (left n).ends (left n).texts ∷ []
all_sent-next n left =
    ap (map (λ conn. session_texts (left conn).ends (left conn).texts)) (range_next n) ∙ map-append (λ conn. session_texts (left conn).ends (left conn).texts) (range_with_len 0 n) (n ∷ [])

-- ---- taking a connection from its home

module _ (store : TableId) (rests : List Rest) (conn : ℕ) (there : IsThere store rests conn) where
  -- the block at a connection's place
  pub block_is : block_of rests conn ≡ Some there.block
  block_is = ap (λ o. slice_get (blocks_left o) (place_of (length rests) conn)) there.home ∙ there.block_there

  pub end_is : end_of rests conn ≡ Some there.end
  end_is = ap (λ o. slice_get (ends_left o) (place_of (length rests) conn)) there.home ∙ there.end_there

  module _ (now : List Rest) (taken : AreTaken rests conn now) where
    -- what is left of its home
    pub now_is : slice_get now (home_of (length rests) conn) ≡ Some (rest_past (length rests) conn (home_of (length rests) conn) there.rest)
    now_is = taken (home_of (length rests) conn) ∙ ap (option_map (rest_past (length rests) conn (home_of (length rests) conn))) there.home

    module _ (rest : Rest) (at : slice_get now (home_of (length rests) conn) ≡ Some rest) where
      rest_is : rest ≡ rest_past (length rests) conn (home_of (length rests) conn) there.rest
      rest_is = let same : Some rest ≡ Some (rest_past (length rests) conn (home_of (length rests) conn) there.rest) = sym at ∙ now_is in cc

      pub blocks_are : rest.blocks ≡ there.block ∷ drop (place_of (length rests) conn + 1) there.rest.blocks
      blocks_are = ap (λ (r : Rest). r.blocks) rest_is ∙ drop_at_get (place_of (length rests) conn) there.rest.blocks there.block there.block_there

      pub ends_are : rest.ends ≡ there.end ∷ drop (place_of (length rests) conn + 1) there.rest.ends
      ends_are = ap (λ (r : Rest). r.ends) rest_is ∙ drop_at_get (place_of (length rests) conn) there.rest.ends there.end there.end_there

      pub some_block : rest.blocks ≢ []
      some_block none = let e = sym blocks_are ∙ none in absurd (cc)

      pub some_end : rest.ends ≢ []
      some_end none = let e = sym ends_are ∙ none in absurd (cc)

      -- one was taken
      module _ (next : Rest) (last : Last) (blocks_step : rest.blocks ≡ last.block ∷ next.blocks) (ends_step : rest.ends ≡ ended_output last.output last.ends.items ∷ next.ends) where
        pub last_block : last.block ≡ there.block
        last_block = let e = sym blocks_step ∙ blocks_are in cc

        pub last_end : ended_output last.output last.ends.items ≡ there.end
        last_end = let e = sym ends_step ∙ ends_are in cc

        next_is : next ≡ rest_past (length rests) (conn + 1) (home_of (length rests) conn) there.rest
        next_is =
            let here = below_here (home_of (length rests) conn) (length rests) conn refl in
            let b : next.blocks ≡ drop (place_of (length rests) conn + 1) there.rest.blocks = let e = sym blocks_step ∙ blocks_are in cc in
            let e : next.ends ≡ drop (place_of (length rests) conn + 1) there.rest.ends = let e = sym ends_step ∙ ends_are in cc in
            (λ i. record { blocks = (b ∙ ap (λ n. drop n there.rest.blocks) (sym here)) i; ends = (e ∙ ap (λ n. drop n there.rest.ends) (sym here)) i })

        -- and the others are as they were
        pub taken_next : AreTaken rests (conn + 1) (slice_set now (home_of (length rests) conn) next)
        taken_next core = dite (ℕ_discrete core (home_of (length rests) conn))
            (λ same. subst (λ (k : ℕ). slice_get (slice_set now (home_of (length rests) conn) next) k ≡ option_map (rest_past (length rests) (conn + 1) k) (slice_get rests k)) (sym same)
            (slice_get-set now (home_of (length rests) conn) next (slice_get_within now (home_of (length rests) conn) rest at)
            ∙ ap Some next_is ∙ sym (ap (option_map (rest_past (length rests) (conn + 1) (home_of (length rests) conn))) there.home)))
            (λ other. slice_get-set_other now (home_of (length rests) conn) core next other ∙ taken core
            ∙ ap (λ n. option_map (λ (r : Rest). record { blocks = drop n r.blocks; ends = drop n r.ends }) (slice_get rests core)) (sym (below_other core (length rests) conn (λ same. other (sym same)))))

        -- what is left of it was taken in
        pub gathered_next : (version : ℕ) (g g' : Gathered) → HasGathered version rests conn g → Gathers last g g' → HasGathered version rests (conn + 1) g'
        gathered_next version g g' has takes = record {
          joined = takes.joined ∙ (λ i. (joined_conn i, joined_calls i) ∷ has.joined i) ∙ sym (ap (joined_to rests) (add-one conn));
          holds = takes.holds ∙ (λ i. has.holds i ++ holds_same i) ∙ sym (all_holds-next conn (left_of version rests));
          version_is = takes.version ∙ has.version_is;
          sessions = takes.sessions ∙ (λ i. has.sessions i ++ sent_same i ∷ []) ∙ sym (all_sent-next conn (left_of version rests));
          kept = kept_next;
        }
          where
            joined_conn : last.block.work.conn ≡ conn
            joined_conn = ap (λ (b : Blocked). b.work.conn) last_block ∙ there.conn_is

            joined_calls : last.block.work.calls ≡ calls_of_block (block_of rests conn)
            joined_calls = ap (λ (b : Blocked). b.work.calls) last_block ∙ sym (ap calls_of_block block_is)

            holds_same : last.block.holds ≡ holds_in (block_of rests conn)
            holds_same = ap (λ (b : Blocked). b.holds) last_block ∙ sym (ap holds_in block_is)

            found : end_of rests conn ≡ Some (ended_output last.output last.ends.items)
            found = end_is ∙ ap Some (sym last_end)

            sent_same : session_texts (session_ends g.outputs.version last.ends.items) last.output.texts ≡ session_texts (session_ends version (ends_in (end_of rests conn))) (texts_in (end_of rests conn))
            sent_same = (λ i. session_texts (session_ends (has.version_is i) (ends_in (sym found i))) (texts_in (sym found i)))

            kept_next : (c : ℕ) → c < conn + 1 → (b : Blocked) → block_of rests c ≡ Some b → IsBlockKept b
            kept_next c below b is = dite (dec_lt c conn)
                (λ less. has.kept c less b is)
                (λ no. let same : c ≡ conn = omega arith in
                let one : Some last.block ≡ Some b = ap Some last_block ∙ sym block_is ∙ ap (block_of rests) (sym same) ∙ is in
                let two : last.block ≡ b = cc in subst IsBlockKept two takes.kept)

-- ---- the same, at the core and the element that the code has

-- there is an output for each connection
pub sent_count : (version : ℕ) (rests : List Rest) (conn : ℕ) (g : Gathered) → HasGathered version rests conn g → conn ≡ length g.outputs.sessions
sent_count version rests conn g has =
    sym (ap (λ (l : List (List (List ℕ))). length l) has.sessions ∙ length-map-range_with_len (λ c. session_texts (left_of version rests c).ends (left_of version rests c).texts) 0 conn)

module _ (store : TableId) (rests : List Rest) (conn : ℕ) (there : IsThere store rests conn) (now : List Rest) (taken : AreTaken rests conn now)
    (core : ℕ) (core_is : core ≡ home_of (length rests) conn) (within : core < length now) (rest : Rest) (is : rest ≡ get_or now core rest) where
  found : slice_get now (home_of (length rests) conn) ≡ Some rest
  found = ap (slice_get now) (sym core_is) ∙ slice_get_read now (length now) core rest refl within is

  pub has_block : rest.blocks ≢ []
  has_block = some_block store rests conn there now taken rest found

  pub has_end : rest.ends ≢ []
  has_end = some_end store rests conn there now taken rest found

  module _ (next : Rest) (last : Last) (blocks_step : rest.blocks ≡ last.block ∷ next.blocks) (ends_step : rest.ends ≡ ended_output last.output last.ends.items ∷ next.ends) where
    pub table_of : last.block.work.table ≡ store
    table_of = ap (λ (b : Blocked). b.work.table) (last_block store rests conn there now taken rest found next last blocks_step ends_step) ∙ there.table_is

    pub next_taken : AreTaken rests (conn + 1) (slice_set now core next)
    next_taken = subst (λ k. AreTaken rests (conn + 1) (slice_set now k next)) (sym core_is) (taken_next store rests conn there now taken rest found next last blocks_step ends_step)

    pub next_gathered : (version : ℕ) (g g' : Gathered) → HasGathered version rests conn g → Gathers last g g' → HasGathered version rests (conn + 1) g'
    next_gathered = gathered_next store rests conn there now taken rest found next last blocks_step ends_step
