-- Bytes that are fed one after another, as one piece.
use Rattle.std.proofs.Common.{◌≡◌, ℕ, ◌+◌, ◌-◌, ◌<◌, ◌≤◌, List, [], ◌∷◌, ◌++◌, length, take, drop, get_or, sym, ap, ◌∙◌, subst, append_assoc, arith}
use Rattle.std.specs.Prelude.{Option, Some, Err}
use Rattle.std.proofs.Math.Seq.{take-add}
use Rattle.std.proofs.lemmas.List.{take_more, take_rest, append-nil}
use Rattle.zy_read.specs.declared.not_taken.NotTaken.{NotTaken}
use Rattle.zy_read.specs.declared.not_taken.NotTaken.TheVariants.{Fault, NoMemory}
use Rattle.zy_pcap.specs.declared.pcap_fault.PcapFault.{PcapFault}
use Rattle.zy_pcap.specs.Packets.{packets, file_fault_met}
use Rattle.zy_pcap.specs.Standing.{PcapReading, StandsForFile, FeedsFile, Meets, Lasts, FeedsFileAs, TellsFileFault, TellsLastingFault, taken_before}

joined_is : (b bytes : List ℕ) (at : ℕ) → at < length bytes → b ++ take (at + 1) bytes ≡ (b ++ take at bytes) ++ get_or bytes at 0 ∷ []
joined_is b bytes at within = ap (λ (l : List ℕ). b ++ l) (take_more bytes at 0 within) ∙ sym (append_assoc b (take at bytes) (get_or bytes at 0 ∷ []))

-- no byte
pub piece_none : (r : PcapReading) (bytes : List ℕ) → FeedsFile r r (take 0 bytes)
piece_none r bytes = λ b stood. subst (StandsForFile r) (sym (append-nil b)) stood

-- one further byte
pub piece_more : (old now new : PcapReading) (bytes : List ℕ) (at : ℕ) → at < length bytes → FeedsFile old now (take at bytes) → FeedsFile now new (get_or bytes at 0 ∷ []) → FeedsFile old new (take (at + 1) bytes)
piece_more old now new bytes at within first second = λ b stood.
    subst (StandsForFile new) (sym (joined_is b bytes at within)) (second (b ++ take at bytes) (first b stood))

-- no further byte
pub piece_same : (old now new : PcapReading) (bytes : List ℕ) → FeedsFile old now bytes → FeedsFile now new [] → FeedsFile old new bytes
piece_same old now new bytes first second = λ b stood.
    subst (StandsForFile new) (append-nil (b ++ bytes)) (second (b ++ bytes) (first b stood))

pub piece_meets : (old now : PcapReading) (bytes : List ℕ) (at : ℕ) (fault : Option PcapFault) → at < length bytes → now.port ≡ old.port → FeedsFile old now (take at bytes) → Meets now (get_or bytes at 0 ∷ []) fault → Meets old (take (at + 1) bytes) fault
piece_meets old now bytes at fault within port first second = λ b stood.
    ap (file_fault_met old.port) (joined_is b bytes at within)
    ∙ ap (λ (n : ℕ). file_fault_met n ((b ++ take at bytes) ++ get_or bytes at 0 ∷ [])) (sym port) ∙ second (b ++ take at bytes) (first b stood)

pub piece_lasts : (old now : PcapReading) (bytes : List ℕ) (at : ℕ) (fault : PcapFault) → at < length bytes → now.port ≡ old.port → FeedsFile old now (take at bytes) → Lasts now (get_or bytes at 0 ∷ []) fault → Lasts old (take (at + 1) bytes) fault
piece_lasts old now bytes at fault within port first second = λ b more stood.
    let same : b ++ (take (at + 1) bytes ++ more) ≡ (b ++ take at bytes) ++ (get_or bytes at 0 ∷ [] ++ more) =
    sym (append_assoc b (take (at + 1) bytes) more) ∙ ap (λ (l : List ℕ). l ++ more) (joined_is b bytes at within) ∙ append_assoc (b ++ take at bytes) (get_or bytes at 0 ∷ []) more in
    ap (packets old.port) same ∙ ap (λ (n : ℕ). packets n ((b ++ take at bytes) ++ (get_or bytes at 0 ∷ [] ++ more))) (sym port) ∙ second (b ++ take at bytes) more (first b stood)

-- ---- the byte that is refused

pub stop_fed : (old now new : PcapReading) (bytes : List ℕ) (at : ℕ) (refused : NotTaken PcapFault) → at < length bytes → FeedsFile old now (take at bytes) → FeedsFileAs now new (get_or bytes at 0 ∷ []) (Err refused) → FeedsFile old new (take (taken_before at refused) bytes)
stop_fed old now new bytes at (Fault fault) within first second = piece_more old now new bytes at within first second
stop_fed old now new bytes at NoMemory within first second = piece_same old now new (take at bytes) first second

pub stop_told : (old now : PcapReading) (bytes : List ℕ) (at : ℕ) (refused : NotTaken PcapFault) → at < length bytes → now.port ≡ old.port → FeedsFile old now (take at bytes) → TellsFileFault now (get_or bytes at 0 ∷ []) (Err refused) → TellsFileFault old (take (taken_before at refused) bytes) (Err refused)
stop_told old now bytes at (Fault fault) within port first second = piece_meets old now bytes at (Some fault) within port first second
stop_told old now bytes at NoMemory within port first second = tt

pub stop_lasts : (old now : PcapReading) (bytes : List ℕ) (at : ℕ) (refused : NotTaken PcapFault) → at < length bytes → now.port ≡ old.port → FeedsFile old now (take at bytes) → TellsLastingFault now (get_or bytes at 0 ∷ []) (Err refused) → TellsLastingFault old (take (taken_before at refused) bytes) (Err refused)
stop_lasts old now bytes at (Fault fault) within port first second = piece_lasts old now bytes at fault within port first second
stop_lasts old now bytes at NoMemory within port first second = tt

pub stop_within : (at size : ℕ) (refused : NotTaken PcapFault) → at < size → taken_before at refused ≤ size
stop_within at size (Fault fault) within = omega (arith, within)
stop_within at size NoMemory within = omega (arith, within)

-- ---- a run

run_is : (bytes : List ℕ) (at run : ℕ) → take (at + run) bytes ≡ take at bytes ++ take run (drop at bytes)
run_is bytes at run = take-add at run bytes

-- a run after the bytes before it
pub run_on : (old now new : PcapReading) (bytes : List ℕ) (at run : ℕ) → FeedsFile old now (take at bytes) → FeedsFile now new (take run (drop at bytes)) → FeedsFile old new (take (at + run) bytes)
run_on old now new bytes at run first second = λ b stood.
    subst (StandsForFile new) (append_assoc b (take at bytes) (take run (drop at bytes)) ∙ ap (λ (l : List ℕ). b ++ l) (sym (run_is bytes at run))) (second (b ++ take at bytes) (first b stood))

-- the same of the slice from the place on
pub slice_on : (old now new : PcapReading) (bytes : List ℕ) (at run : ℕ) → FeedsFile old now (take at bytes) → FeedsFile now new (take run (take (length bytes - at) (drop at bytes))) → FeedsFile old new (take (at + run) bytes)
slice_on old now new bytes at run first second = run_on old now new bytes at run first (subst (λ (l : List ℕ). FeedsFile now new (take run l)) (take_rest bytes at) second)
