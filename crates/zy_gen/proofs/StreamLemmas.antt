-- The stream of each connection of generated traffic is its own requests, one after another.
use Rattle.std.proofs.Common.{◌≡◌, ℕ, zero, suc, ◌+◌, ◌<◌, ◌≤◌, Bool, true, false, cond, List, [], ◌∷◌, ◌++◌, length, take, drop, take-append-drop, refl, sym, ap, ◌∙◌, append_assoc, append-nil, length-append, subst, eq-eqb, ne_eqb, arith}
use Rattle.std.specs.Prelude.{◌==◌, ◌&&◌}
use mathlib.Core.Logic.{dite}
use native.Mathlib.Decide.{ℕ_discrete}
use Rattle.rand_pcg.specs.Lcg.{Lcg}
use Rattle.zy_capture.specs.declared.record.Record.{Record}
use Rattle.zy_capture.specs.declared.record.Record.TheVariants as Kinds
use Rattle.zy_capture.specs.Streams.{closes, stream}
use Rattle.zy_frame.specs.Cut.{joined}
use Rattle.zy_gen.specs.Draw.{draw, draw_command, words_of}
use Rattle.zy_gen.specs.Traffic.{command_text, cut, one_command, one_round, rounds, traffic_records}
use Rattle.zy_gen.proofs.TrafficLemmas.{command_small}
use Rattle.zy_gen.specs.Said.{AreSegments, CarriesRequests, IsOwnText}
use Rattle.zy_gen.proofs.SolidLemmas.{each-append}

-- ---- records

segments-append : (xs ys : List Record) → AreSegments xs → AreSegments ys → AreSegments (xs ++ ys)
segments-append [] ys front back = back
segments-append (Kinds.Segment s ∷ xs) ys front back = segments-append xs ys front back
segments-append (Kinds.Close conn ∷ xs) ys front back = absurd front

pub closes-none : (conn : ℕ) (items : List Record) → AreSegments items → closes conn items ≡ 0
closes-none conn [] all = refl
closes-none conn (Kinds.Segment s ∷ items) all = closes-none conn items all
closes-none conn (Kinds.Close other ∷ items) all = absurd all

stream-append : (conn : ℕ) (xs ys : List Record) → AreSegments xs → stream conn 0 (xs ++ ys) ≡ stream conn 0 xs ++ stream conn 0 ys
stream-append conn [] ys all = refl
stream-append conn (Kinds.Segment s ∷ xs) ys all = go (s.conn == conn && true) s.bytes (stream conn 0 (xs ++ ys)) (stream conn 0 xs) (stream conn 0 ys) (stream-append conn xs ys all)
  where
    go : (b : Bool) (bytes all front back : List ℕ) → all ≡ front ++ back → cond b (bytes ++ all) all ≡ cond b (bytes ++ front) front ++ back
    go true bytes all front back is = ap (λ (l : List ℕ). bytes ++ l) is ∙ sym (append_assoc bytes front back)
    go false bytes all front back is = is
stream-append conn (Kinds.Close other ∷ xs) ys all = absurd all

joined-append : (xs ys : List (List ℕ)) → joined (xs ++ ys) ≡ joined xs ++ joined ys
joined-append [] ys = refl
joined-append (x ∷ xs) ys = ap (λ (l : List ℕ). x ++ l) (joined-append xs ys) ∙ sym (append_assoc x (joined xs) (joined ys))

gives-none : (conn : ℕ) → CarriesRequests conn 0 []
gives-none conn = record { segments = tt; texts = []; count = refl; whole = refl; each = tt }

gives-append : (conn n m : ℕ) (xs ys : List Record) → CarriesRequests conn n xs → CarriesRequests conn m ys → CarriesRequests conn (n + m) (xs ++ ys)
gives-append conn n m xs ys front back = record {
  segments = segments-append xs ys front.segments back.segments;
  texts = front.texts ++ back.texts;
  count = length-append front.texts back.texts ∙ ap (λ (k : ℕ). k + length back.texts) front.count ∙ ap (λ (k : ℕ). n + k) back.count;
  whole = stream-append conn xs ys front.segments ∙ ap (λ (l : List ℕ). l ++ stream conn 0 ys) front.whole ∙ ap (λ (l : List ℕ). joined front.texts ++ l) back.whole ∙ sym (joined-append front.texts back.texts);
  each = each-append (IsOwnText conn) front.texts back.texts front.each back.each;
}

-- ---- commands

-- the two segments of a text
stream-cut : (conn connection at : ℕ) (bytes : List ℕ) (b : Bool) → (connection == conn) ≡ b → stream conn 0 (cut connection bytes at) ≡ cond b bytes []
stream-cut conn connection at bytes true is =
    ap (λ b. cond (b && true) (take at bytes ++ cond (b && true) (drop at bytes ++ []) []) (cond (b && true) (drop at bytes ++ []) [])) is
    ∙ ap (λ (l : List ℕ). take at bytes ++ l) (append-nil (drop at bytes)) ∙ take-append-drop at bytes
stream-cut conn connection at bytes false is =
    ap (λ b. cond (b && true) (take at bytes ++ cond (b && true) (drop at bytes ++ []) []) (cond (b && true) (drop at bytes ++ []) [])) is

-- a command of the connection
gives-own : (conn connection : ℕ) (words : Lcg) → connection ≡ conn → CarriesRequests conn 1 (one_command connection words).items
unfolding one_command
gives-own conn connection words is =
    let drawn = draw_command words in
    let bytes : List ℕ = command_text connection drawn.command in
    record {
      segments = tt;
      texts = bytes ∷ [];
      count = refl;
      whole = stream-cut conn connection (draw (length bytes + 1) drawn.left).value bytes true (eq-eqb connection conn is) ∙ sym (append-nil bytes);
      each = (record { item = drawn.command.item; request = drawn.command.request; small = command_small words; is = ap (λ c. command_text c drawn.command) is }, tt);
    }

-- a command of another connection
gives-other : (conn connection : ℕ) (words : Lcg) → (connection ≡ conn → ⊥) → CarriesRequests conn 0 (one_command connection words).items
unfolding one_command
gives-other conn connection words other =
    let drawn = draw_command words in
    let bytes : List ℕ = command_text connection drawn.command in
    record { segments = tt; texts = []; count = refl; whole = stream-cut conn connection (draw (length bytes + 1) drawn.left).value bytes false (ne_eqb connection conn other); each = tt }

-- ---- rounds

more : (conn connection count n m : ℕ) (words : Lcg) → CarriesRequests conn n (one_command connection words).items → CarriesRequests conn m (one_round (connection + 1) count (one_command connection words).left).items
    → CarriesRequests conn (n + m) (one_round connection (suc count) words).items
unfolding one_round
more conn connection count n m words = gives-append conn n m (one_command connection words).items (one_round (connection + 1) count (one_command connection words).left).items

-- a round of later connections
round-past : (conn connection count : ℕ) (words : Lcg) → conn < connection → CarriesRequests conn 0 (one_round connection count words).items
unfolding one_round
round-past conn connection zero words past = gives-none conn
round-past conn connection (suc count) words past =
    more conn connection count 0 0 words (gives-other conn connection words (λ is. omega arith)) (round-past conn (connection + 1) count (one_command connection words).left (omega arith))

-- a round with the connection
round-one : (conn connection count : ℕ) (words : Lcg) → connection ≤ conn → conn < connection + count → CarriesRequests conn 1 (one_round connection count words).items
round-one conn connection zero words low high = absurd (omega arith)
round-one conn connection (suc count) words low high = dite (ℕ_discrete connection conn)
    (λ is. more conn connection count 1 0 words (gives-own conn connection words is) (round-past conn (connection + 1) count (one_command connection words).left (omega arith)))
    (λ other. more conn connection count 0 1 words (gives-other conn connection words other) (round-one conn (connection + 1) count (one_command connection words).left (omega arith) (omega arith)))

rounds-all : (conn connections count : ℕ) (words : Lcg) → conn < connections → CarriesRequests conn count (rounds connections count words).items
unfolding rounds
rounds-all conn connections zero words within = gives-none conn
rounds-all conn connections (suc count) words within =
    subst (λ n. CarriesRequests conn n ((one_round 0 connections words).items ++ (rounds connections count (one_round 0 connections words).left).items)) (omega arith)
    (gives-append conn 1 count (one_round 0 connections words).items (rounds connections count (one_round 0 connections words).left).items
    (round-one conn 0 connections words (omega arith) (omega arith)) (rounds-all conn connections count (one_round 0 connections words).left within))

-- each connection's stream is `commands` requests of its own
pub gives-traffic : (conn number connections commands : ℕ) → conn < connections → CarriesRequests conn commands (traffic_records number connections commands)
gives-traffic conn number connections commands within = rounds-all conn connections commands (words_of number) within
