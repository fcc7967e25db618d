-- If two runs give a connection the same entries apart from uniques, its outputs are the same.
use Rattle.std.proofs.Common.{◌≡◌, ℕ, zero, suc, ◌+◌, ◌<◌, ◌≤◌, List, [], ◌∷◌, ◌++◌, length, map, refl, sym, ap, ◌∙◌, arith}
use Rattle.std.specs.Prelude.{All}
use Rattle.std.specs.List.{AllByRecursion, concat, range_with_len, slice_index_or}
use Rattle.std.proofs.lemmas.List.Elements.{recursion_from_All}
use Rattle.mc_calls.specs.declared.entry.Entry.{Entry}
use Rattle.mc_calls.specs.Order.{of_connection}
use Rattle.mc_reply.specs.Texts.{texts_from}
use Rattle.zy_frame.specs.Cut.{commands_of}
use Rattle.zy_run.specs.Commands.{commands_over}
use Rattle.zy_run.specs.Output.{commands_before, session_output, connection_outputs}
use Rattle.mc_parse.specs.Plain.{IsPlain}
use Rattle.mc_calls.specs.Told.{all_told}
use Rattle.mc_reply.proofs.ToldLemmas.{texts-told}

-- ---- lists

-- two functions that agree on a range make the same list from it
pub map-range_same : {X : Type 0} (f g : ℕ → X) (first n : ℕ) → ((k : ℕ) → first ≤ k → k < first + n → f k ≡ g k) → map f (range_with_len first n) ≡ map g (range_with_len first n)
map-range_same f g first zero same = refl
map-range_same {X} f g first (suc n) same =
    ap (λ (x : X). x ∷ map f (range_with_len (first + 1) n)) (same first (omega arith) (omega arith))
    ∙ ap (λ (l : List X). g first ∷ l) (map-range_same f g (first + 1) n (λ k low high. same k (omega arith) (omega arith)))

each-front : {X : Type 0} (P : X → Type 0) (xs ys : List X) → AllByRecursion P (xs ++ ys) → AllByRecursion P xs
each-front P [] ys each = tt
each-front P (x ∷ xs) ys each = (each.0, each-front P xs ys each.1)

each-back : {X : Type 0} (P : X → Type 0) (xs ys : List X) → AllByRecursion P (xs ++ ys) → AllByRecursion P ys
each-back P [] ys each = each
each-back P (x ∷ xs) ys each = each-back P xs ys each.1

-- ---- sessions

plain_session : (session : ℕ) (streams : List (List ℕ)) → session < length streams → AllByRecursion IsPlain (commands_over streams) → AllByRecursion IsPlain (commands_of (slice_index_or streams session []))
plain_session session [] within plain = absurd (omega arith)
plain_session zero (stream ∷ streams) within plain = each-front IsPlain (commands_of stream) (commands_over streams) plain
plain_session (suc session) (stream ∷ streams) within plain = plain_session session streams (omega arith) (each-back IsPlain (commands_of stream) (commands_over streams) plain)

output-told : (conn session : ℕ) (streams : List (List ℕ)) (es : List Entry) → session < length streams → AllByRecursion IsPlain (commands_over streams)
    → concat (texts_from (commands_before session streams) (commands_of (slice_index_or streams session [])) (all_told (of_connection conn es))) ≡ session_output conn session streams es
output-told conn session streams es within plain =
    ap concat (texts-told (commands_before session streams) (commands_of (slice_index_or streams session [])) (of_connection conn es) (plain_session session streams within plain))

-- the outputs of a connection whose commands are plain depend on its entries without uniques alone
pub outputs-same : (conn : ℕ) (streams : List (List ℕ)) (es others : List Entry) → All IsPlain (commands_over streams)
    → all_told (of_connection conn es) ≡ all_told (of_connection conn others) → connection_outputs conn streams es ≡ connection_outputs conn streams others
outputs-same conn streams es others plain same =
    let each : AllByRecursion IsPlain (commands_over streams) = recursion_from_All IsPlain (commands_over streams) plain in
    map-range_same (λ session. session_output conn session streams es) (λ session. session_output conn session streams others) 0 (length streams)
    (λ session low high.
    sym (output-told conn session streams es (omega arith) each)
    ∙ ap (λ (l : List Entry). concat (texts_from (commands_before session streams) (commands_of (slice_index_or streams session [])) l)) same
    ∙ output-told conn session streams others (omega arith) each)
