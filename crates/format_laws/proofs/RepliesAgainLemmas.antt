-- What is written of outputs is the encoding of their sessions, which are in order.
use Rattle.std.proofs.Common.{◌≡◌, ◌⊎◌, inl, inr, ℕ, ◌+◌, ◌<◌, ◌≤◌, ◌^◌, List, [], ◌∷◌, ◌++◌, length, refl, sym, ◌∙◌}
use Rattle.std.proofs.Common.{ap, arith}
use Rattle.std.specs.Prelude.{flat_map}
use Rattle.std.specs.List.{AllByRecursion}
use Rattle.std.proofs.lemmas.Grind.{flat_map-append}
use Rattle.zy_capture.specs.declared.session_bytes.SessionBytes.{SessionBytes}
use Rattle.zy_capture.specs.Capture.{connection_limit}
use Rattle.zy_capture.specs.Outputs.{AllOutputs, AreOutputs, HasSessions}
use Rattle.zy_capture.specs.Replies.{replies_limit, SpellsReplies, replies_magic, output_text, connection_text}
use Rattle.zy_capture.specs.Replies.{numbered_from, replies_bytes, spelled, spelling, AreBySession, IsRepliesFile}
use Rattle.zy_capture.specs.Replies.{session_items, all_items, items_of}

-- ---- the text

session_texts : (version conn number : ℕ) (sessions : List (List ℕ)) → numbered_from (output_text version conn) number sessions ≡ flat_map (spelled version) (session_items conn number sessions)
session_texts version conn number [] = refl
session_texts version conn number (bytes ∷ sessions) = ap (λ (l : List ℕ). output_text version conn number bytes ++ l) (session_texts version conn (number + 1) sessions)

all_texts : (version conn : ℕ) (connections : List (List (List ℕ))) → numbered_from (connection_text version) conn connections ≡ flat_map (spelled version) (all_items conn connections)
all_texts version conn [] = refl
all_texts version conn (sessions ∷ connections) =
    ap (λ (l : List ℕ). connection_text version conn sessions ++ l) (all_texts version (conn + 1) connections)
    ∙ ap (λ (l : List ℕ). l ++ flat_map (spelled version) (all_items (conn + 1) connections)) (session_texts version conn 0 sessions)
    ∙ sym (flat_map-append (spelled version) (session_items conn 0 sessions) (all_items (conn + 1) connections))

pub bytes_spelled : (outputs : AllOutputs) → replies_bytes outputs ≡ spelling outputs.version (items_of outputs)
unfolding replies_bytes spelling
bytes_spelled outputs = ap (λ (l : List ℕ). replies_magic outputs.version ++ l ++ 69 ∷ []) (all_texts outputs.version 0 outputs.sessions)

-- ---- the order

-- further sessions of the last connection, and then the sessions of the next connections
later_sessions : (version conn number : ℕ) (sessions : List (List ℕ)) (rest : List SessionBytes) → version ≡ 2 → conn < connection_limit → number + length sessions ≤ 2 ^ 31
    → ((last : ℕ) → AreBySession version (conn + 1) last rest) → AreBySession version (conn + 1) number (session_items conn number sessions ++ rest)
later_sessions version conn number [] rest two below few onwards = onwards number
later_sessions version conn number (bytes ∷ sessions) rest two below few onwards =
    (inr (two, refl, refl), (below, omega (arith, few)), later_sessions version conn (number + 1) sessions rest two below (omega (arith, few)) onwards)

-- the sessions of the next connection, and then those of the ones after it
next_sessions : (version conn last : ℕ) (sessions : List (List ℕ)) (rest : List SessionBytes) → (version ≡ 1) ⊎ (version ≡ 2) → HasSessions version sessions → conn < connection_limit
    → ((last : ℕ) → AreBySession version (conn + 1) last rest) → AreBySession version conn last (session_items conn 0 sessions ++ rest)
next_sessions version conn last [] rest known has below onwards = absurd (omega (arith, has.some))
next_sessions version conn last (bytes ∷ []) rest known has below onwards = (inl (refl, refl), (below, omega arith), onwards 1)
next_sessions version conn last (bytes ∷ next ∷ sessions) rest (inl one) has below onwards = absurd (omega (arith, has.one one))
next_sessions version conn last (bytes ∷ next ∷ sessions) rest (inr two) has below onwards =
    (inl (refl, refl), (below, omega arith), later_sessions version conn 1 (next ∷ sessions) rest two below (omega (arith, has.few)) onwards)

all_in_order : (version conn last : ℕ) (connections : List (List (List ℕ))) → (version ≡ 1) ⊎ (version ≡ 2) → AllByRecursion (HasSessions version) connections → conn + length connections ≤ connection_limit
    → AreBySession version conn last (all_items conn connections)
all_in_order version conn last [] known all few = tt
all_in_order version conn last (sessions ∷ connections) known all few =
    next_sessions version conn last sessions (all_items (conn + 1) connections) known all.0 (omega (arith, few))
    (λ more. all_in_order version (conn + 1) more connections known all.1 (omega (arith, few)))

pub items_in_order : (outputs : AllOutputs) → AreOutputs outputs → IsRepliesFile outputs.version (items_of outputs)
items_in_order outputs are = record { known = are.known; ordered = all_in_order outputs.version 0 0 outputs.sessions are.known are.sessions (omega (arith, are.few)) }

-- ---- what adding keeps

pub no_outputs_are : (version : ℕ) → (version ≡ 1) ⊎ (version ≡ 2) → AreOutputs (record { version = version; sessions = [] })
no_outputs_are version known = record { known = known; few = omega arith; sessions = tt }

-- ---- what is written is read again

pub written_spells : (outputs : AllOutputs) → AreOutputs outputs → length (replies_bytes outputs) ≤ replies_limit → SpellsReplies (replies_bytes outputs) outputs.version (items_of outputs)
written_spells outputs are short = record { valid = items_in_order outputs are; spelled = bytes_spelled outputs; short = short }
