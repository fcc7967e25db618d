-- Bytes that are fed in runs and one by one.
use Rattle.std.proofs.Common.{◌≡◌, ℕ, ◌+◌, ◌<◌, List, [], ◌∷◌, length, take, drop, get_or, take-add, sym, subst}
use Rattle.std.specs.Prelude.{Option, None, Some, Result, Ok, Err, option_to_list}
use Rattle.std.proofs.lemmas.List.{take_more, drop-drop}
use Rattle.zy_read.specs.declared.not_taken.NotTaken.{NotTaken}
use Rattle.zy_read.specs.declared.not_taken.NotTaken.TheVariants.{Fault, NoMemory}
use Rattle.zy_read.specs.Format.{Format, IsLasting}
use Rattle.zy_read.specs.Standing.{given_in, Feeds, TellsFault, TellsLasting, Follows, taken_with}
use Rattle.zy_read.proofs.Feeding.{fed_on, fed, met_by, lasts_by}

-- a run after some first bytes
pub run_on : {P G F V : Type 0} (format : Format P G F V) (old between new : P) (bytes : List ℕ) (at run : ℕ) → Feeds format old between (take at bytes) [] → Feeds format between new (take run (drop at bytes)) [] → Feeds format old new (take (at + run) bytes) []
run_on format old between new bytes at run first second =
    subst (λ (l : List ℕ). Feeds format old new l []) (sym (take-add at run bytes)) (fed_on format old between new (take at bytes) (take run (drop at bytes)) [] [] first second)

-- a run after a run
pub run_more : {P G F V : Type 0} (format : Format P G F V) (old between new : P) (bytes : List ℕ) (at first second : ℕ) → Feeds format old between (take first (drop at bytes)) [] → Feeds format between new (take second (drop (at + first) bytes)) [] → Feeds format old new (take (first + second) (drop at bytes)) []
run_more format old between new bytes at first second one two =
    run_on format old between new (drop at bytes) first second one (subst (λ (l : List ℕ). Feeds format between new (take second l) []) (sym (drop-drop first at bytes)) two)

-- one byte after some first bytes
pub byte_on : {P G F V : Type 0} (format : Format P G F V) (old between new : P) (bytes : List ℕ) (at : ℕ) (gave : List G) → at < length bytes → Feeds format old between (take at bytes) [] → Feeds format between new (get_or bytes at 0 ∷ []) gave → Feeds format old new (take (at + 1) bytes) gave
byte_on format old between new bytes at gave within first second =
    subst (λ (l : List ℕ). Feeds format old new l gave) (sym (take_more bytes at 0 within)) (fed_on format old between new (take at bytes) (get_or bytes at 0 ∷ []) [] gave first second)

-- ---- the answer to one byte after some first bytes

pub stop_fed : {P G F V : Type 0} (format : Format P G F V) (wants : P → ℕ → Type 0) (old between new : P) (bytes : List ℕ) (at : ℕ) (answer : Result (Option G) (NotTaken F)) → at < length bytes → Feeds format old between (take at bytes) []
    → Follows format wants (format.step between (get_or bytes at 0)) between new (get_or bytes at 0) answer → Feeds format old new (take (taken_with at answer) bytes) (given_in answer)
stop_fed format wants old between new bytes at (Ok gave) within first follows =
    byte_on format old between new bytes at (option_to_list gave) within first (fed format wants between new (get_or bytes at 0) (Ok gave) follows)
stop_fed format wants old between new bytes at (Err (Fault fault)) within first follows =
    byte_on format old between new bytes at [] within first (fed format wants between new (get_or bytes at 0) (Err (Fault fault)) follows)
stop_fed format wants old between new bytes at (Err NoMemory) within first follows = rw (follows.0) first

pub stop_told : {P G F V : Type 0} (format : Format P G F V) (wants : P → ℕ → Type 0) (old between new : P) (bytes : List ℕ) (at : ℕ) (answer : Result (Option G) (NotTaken F)) → at < length bytes → Feeds format old between (take at bytes) []
    → Follows format wants (format.step between (get_or bytes at 0)) between new (get_or bytes at 0) answer → TellsFault format old (take (taken_with at answer) bytes) answer
stop_told format wants old between new bytes at (Ok gave) within first follows =
    met_by format old new (take (at + 1) bytes) (option_to_list gave) None (stop_fed format wants old between new bytes at (Ok gave) within first follows) follows.2
stop_told format wants old between new bytes at (Err (Fault fault)) within first follows =
    met_by format old new (take (at + 1) bytes) [] (Some fault) (stop_fed format wants old between new bytes at (Err (Fault fault)) within first follows) follows.2
stop_told format wants old between new bytes at (Err NoMemory) within first follows = tt

pub stop_lasts : {P G F V : Type 0} (format : Format P G F V) (lasting : IsLasting format) (wants : P → ℕ → Type 0) (old between new : P) (bytes : List ℕ) (at : ℕ) (answer : Result (Option G) (NotTaken F)) → at < length bytes → Feeds format old between (take at bytes) []
    → Follows format wants (format.step between (get_or bytes at 0)) between new (get_or bytes at 0) answer → TellsLasting format old (take (taken_with at answer) bytes) answer
stop_lasts format lasting wants old between new bytes at (Ok gave) within first follows = tt
stop_lasts format lasting wants old between new bytes at (Err (Fault fault)) within first follows =
    lasts_by format lasting old new (take (at + 1) bytes) [] fault (stop_fed format wants old between new bytes at (Err (Fault fault)) within first follows) follows.2
stop_lasts format lasting wants old between new bytes at (Err NoMemory) within first follows = tt

-- ---- a byte that ends nothing

pub goes_fed : {P G F V : Type 0} (format : Format P G F V) (wants : P → ℕ → Type 0) (old between new : P) (bytes : List ℕ) (at : ℕ) (answer : Result (Option G) (NotTaken F)) → answer ≡ Ok None → at < length bytes → Feeds format old between (take at bytes) []
    → Follows format wants (format.step between (get_or bytes at 0)) between new (get_or bytes at 0) answer → Feeds format old new (take (at + 1) bytes) []
goes_fed {P} {G} {F} format wants old between new bytes at answer none within first follows =
    stop_fed format wants old between new bytes at (Ok None) within first
    (subst (λ (a : Result (Option G) (NotTaken F)). Follows format wants (format.step between (get_or bytes at 0)) between new (get_or bytes at 0) a) none follows)

pub goes_still : {P G F V : Type 0} (format : Format P G F V) (wants : P → ℕ → Type 0) (between new : P) (byte : ℕ) (answer : Result (Option G) (NotTaken F)) → answer ≡ Ok None
    → Follows format wants (format.step between byte) between new byte answer → format.fault_in new ≡ None
goes_still {P} {G} {F} format wants between new byte answer none follows =
    let taken = subst (λ (a : Result (Option G) (NotTaken F)). Follows format wants (format.step between byte) between new byte a) none follows in taken.2
