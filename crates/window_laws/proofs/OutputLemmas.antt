-- The outputs of two windows, and how they are cut.
use Rattle.std.specs.Prelude.{if◌then◌else◌, nat_lt}
use Rattle.std.proofs.Common.{◌≡◌, ℕ, zero, suc, ◌+◌, ◌-◌, ◌<◌, ◌≤◌, Bool, true, false, List, [], ◌∷◌, length, get_or, replicate, refl, sym, ap, ◌∙◌, subst, arith}
use Rattle.std.proofs.lemmas.List.{get_or_past, get_or_append_left, get_or-append-add, get_or-append_right, get_or-replicate, length-append, length-replicate}
use Rattle.std.proofs.lemmas.Bool.{lt-ltb, ltb-true}
use mathlib.Core.Logic.{dite}
use native.Mathlib.Decide.{dec_lt}
use Rattle.mc_answers.specs.Output.{Cut, IsCut}
use Rattle.mc_parse.specs.declared.command.Command.{Command}
use Rattle.zy_capture.specs.Streams.{closes, sessions_of}
use Rattle.zy_verdict.specs.Recorded.{Recorded, session_commands, output_of, HaveSessions}
use Rattle.zy_verdict.specs.Explained.{OutputCuts, AreCuts}
use Rattle.window_laws.specs.Joined.{HasConnections, filled, joined_windows}
use Rattle.window_laws.proofs.RecordLemmas.{first_closes, later_closes}
use Rattle.window_laws.proofs.WindowLemmas.{by_window, first_commands, later_commands}

-- ---- outputs

-- one session without a byte
abbrev one_empty : List (List ℕ)
one_empty = [] ∷ []

length_filled : (count : ℕ) (outputs : List (List (List ℕ))) → length outputs ≤ count → length (filled count outputs) ≡ count
length_filled count outputs few =
    let both = length-append outputs (replicate (count - length outputs) one_empty) in
    let rest = length-replicate (count - length outputs) one_empty in
    omega (arith, both, rest, few)

empty_at : (session : ℕ) → get_or one_empty session [] ≡ []
empty_at zero = refl
empty_at (suc session) = refl

-- what a connection without output has
filled_behind : (count conn : ℕ) (outputs : List (List (List ℕ))) → conn < count → length outputs ≤ conn → sessions_of (filled count outputs) conn ≡ one_empty
filled_behind count conn outputs within behind =
    get_or-append_right outputs (replicate (count - length outputs) one_empty) (length outputs) conn [] refl behind
    ∙ get_or-replicate (count - length outputs) (conn - length outputs) one_empty [] (omega (arith, within, behind))

module _ (r next : Recorded) (few : length r.outputs ≤ r.count) where
  pub first_sessions : (conn : ℕ) → conn < r.count → sessions_of (joined_windows r next).outputs conn ≡ sessions_of (filled r.count r.outputs) conn
  first_sessions conn within =
      get_or_append_left (filled r.count r.outputs) next.outputs [] conn (let size = length_filled r.count r.outputs few in omega (arith, size, within))

  pub later_sessions : (conn : ℕ) → sessions_of (joined_windows r next).outputs (r.count + conn) ≡ sessions_of next.outputs conn
  later_sessions conn =
      subst (λ (n : ℕ). sessions_of (joined_windows r next).outputs (n + conn) ≡ sessions_of next.outputs conn) (length_filled r.count r.outputs few)
      (get_or-append-add (filled r.count r.outputs) next.outputs conn [])

  pub first_output : (conn session : ℕ) → conn < r.count → output_of (joined_windows r next) conn session ≡ output_of r conn session
  first_output conn session within =
      ap (λ (l : List (List ℕ)). get_or l session []) (first_sessions conn within)
      ∙ dite (dec_lt conn (length r.outputs))
      (λ here. ap (λ (l : List (List ℕ)). get_or l session []) (get_or_append_left r.outputs (replicate (r.count - length r.outputs) one_empty) [] conn here))
      (λ behind.
      ap (λ (l : List (List ℕ)). get_or l session []) (filled_behind r.count conn r.outputs within (omega (arith, behind)))
      ∙ empty_at session ∙ ap (λ (l : List (List ℕ)). get_or l session []) (sym (get_or_past r.outputs conn [] (omega (arith, behind)))))

  pub later_output : (conn session : ℕ) → output_of (joined_windows r next) (r.count + conn) session ≡ output_of next conn session
  later_output conn session = ap (λ (l : List (List ℕ)). get_or l session []) (later_sessions conn)

pub both_sessions : (r next : Recorded) → HasConnections r → HaveSessions r → HaveSessions next → HaveSessions (joined_windows r next)
both_sessions r next own one other = record {
  connections =
      let few = one.connections in
      let more = other.connections in
      let size = length_filled r.count r.outputs few in
      let both = length-append (filled r.count r.outputs) next.outputs in
      omega (arith, size, both, more);
  sessions = λ conn there.
      by_window (λ (c : ℕ). c < length (joined_windows r next).outputs → length (sessions_of (joined_windows r next).outputs c) ≤ closes c (joined_windows r next).records + 1) r.count conn
      (λ within _. first conn within)
      (λ k within. later k within) there;
}
  where
    first : (conn : ℕ) → conn < r.count → length (sessions_of (joined_windows r next).outputs conn) ≤ closes conn (joined_windows r next).records + 1
    first conn within =
        let same = first_closes r.count conn within r.records next.records in
        dite (dec_lt conn (length r.outputs))
        (λ here.
        let size = ap (λ (l : List (List ℕ)). length l) (first_sessions r next one.connections conn within ∙ get_or_append_left r.outputs (replicate (r.count - length r.outputs) one_empty) [] conn here) in
        let few = one.sessions conn here in
        omega (arith, same, size, few))
        (λ behind.
        let size = ap (λ (l : List (List ℕ)). length l) (first_sessions r next one.connections conn within ∙ filled_behind r.count conn r.outputs within (omega (arith, behind))) in
        omega (arith, size))

    later : (k : ℕ) → r.count + k < length (joined_windows r next).outputs → length (sessions_of (joined_windows r next).outputs (r.count + k)) ≤ closes (r.count + k) (joined_windows r next).records + 1
    later k within =
        let long = length-append (filled r.count r.outputs) next.outputs in
        let filled_size = length_filled r.count r.outputs one.connections in
        let same = later_closes r.count k r.records next.records own in
        let size = ap (λ (l : List (List ℕ)). length l) (later_sessions r next one.connections k) in
        let few = other.sessions k (omega (arith, within, long, filled_size)) in
        omega (arith, same, size, few)

-- ---- cuts

-- the cuts of both
abbrev pub joined_cuts : ℕ → OutputCuts → OutputCuts → OutputCuts
joined_cuts count cuts later conn session = if nat_lt conn count then cuts conn session else later (conn - count) session

module _ (count : ℕ) (cuts later : OutputCuts) where
  pub first_cut : (conn session : ℕ) → conn < count → joined_cuts count cuts later conn session ≡ cuts conn session
  first_cut conn session within = ap (λ (b : Bool). if b then cuts conn session else later (conn - count) session) (lt-ltb conn count within)

  not_below : (k : ℕ) (b : Bool) → nat_lt (count + k) count ≡ b → b ≡ false
  not_below k true is = absurd (let low = ltb-true (count + k) count is in omega (arith, low))
  not_below k false is = refl

  pub later_cut : (k session : ℕ) → joined_cuts count cuts later (count + k) session ≡ later k session
  later_cut k session =
      let behind : nat_lt (count + k) count ≡ false = not_below k (nat_lt (count + k) count) refl in
      let is : count + k - count ≡ k = omega arith in
      ap (λ (b : Bool). if b then cuts (count + k) session else later (count + k - count) session) behind ∙ ap (λ (c : ℕ). later c session) is

-- a cut of one session as it is of another
alike_cut : (commands others : List Command) (output other : List ℕ) (cut same : Cut) → commands ≡ others → output ≡ other → cut ≡ same → IsCut others other same → IsCut commands output cut
alike_cut commands others output other cut same one two three is =
    subst (λ (c : List Command). IsCut c output cut) (sym one) (subst (λ (o : List ℕ). IsCut others o cut) (sym two) (subst (λ (c : Cut). IsCut others other c) (sym three) is))

pub both_cuts : (r next : Recorded) (cuts later : OutputCuts) → HasConnections r → length r.outputs ≤ r.count → AreCuts r cuts → AreCuts next later → AreCuts (joined_windows r next) (joined_cuts r.count cuts later)
both_cuts r next cuts later own few one other conn session =
    by_window (λ (c : ℕ). IsCut (session_commands (joined_windows r next) c session) (output_of (joined_windows r next) c session) (joined_cuts r.count cuts later c session)) r.count conn
    (λ within.
    alike_cut (session_commands (joined_windows r next) conn session) (session_commands r conn session) (output_of (joined_windows r next) conn session) (output_of r conn session)
    (joined_cuts r.count cuts later conn session) (cuts conn session)
    (first_commands r next conn session within) (first_output r next few conn session within) (first_cut r.count cuts later conn session within) (one conn session))
    (λ k.
    alike_cut (session_commands (joined_windows r next) (r.count + k) session) (session_commands next k session) (output_of (joined_windows r next) (r.count + k) session) (output_of next k session)
    (joined_cuts r.count cuts later (r.count + k) session) (later k session)
    (later_commands r next own k session) (later_output r next few k session) (later_cut r.count cuts later k session) (other k session))
