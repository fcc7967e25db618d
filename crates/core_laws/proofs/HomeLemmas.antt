-- What a settled home hands out, outputs cut at the ends of sessions, and when a block that is away was published.
use Rattle.std.specs.Prelude.{flat_map, map, ◌&&◌, not}
use Rattle.std.proofs.Common.{◌≡◌, ℕ, ◌+◌, ◌-◌, List, [], ◌∷◌, ◌++◌, length, take, drop, sym, ap, ◌∙◌, arith}
use Rattle.std.proofs.Common.{append-nil, suc, Bool, true, false, Option, Some, None, slice_get, refl, subst}
use Rattle.std.proofs.lemmas.List.{length-map}
use Rattle.std.proofs.Math.Seq.{take-append_seam, drop-append_seam}
use Rattle.mc_calls.specs.declared.entry.Entry.{Entry}
use Rattle.mc_reply.specs.Texts.{texts_from}
use Rattle.mc_reply.proofs.TextLemmas.{texts_from-append, length-texts_from}
use Rattle.zy_frame.specs.Frame.{command_of}
use Rattle.zy_frame.specs.Cut.{commands_of, frames_of}
use Rattle.zy_home.specs.Link.{ends_from, Link, LinkStands, conn_of}
use Rattle.core_laws.specs.Homes.{cut_at, outputs_from, IsHandedOut, AreFinished}
use Rattle.zy_table.specs.declared.name.Name.{Name}
use Rattle.zy_rx.specs.declared.rx.Rx.{Rx}
use Rattle.zy_rx.specs.Flow.{home_of}
use Rattle.zy_rx.specs.Session.{Sessions, received_by}
use Rattle.zy_table.proofs.SliceLemmas.{get_set_same}
use Rattle.zy_shuffle.specs.Run.{Before}
use Rattle.zy_shuffle.specs.Pass.{Held, PublishMakes}
use Rattle.zy_conn.specs.Work.{Mark, has_event}
use Rattle.zy_conn.specs.Block.{Blocked}
use Rattle.zy_home.proofs.FinishLemmas.{conn_end}
use Rattle.zy_home.specs.End.{EndedOutput, blocks_in, ended_of}
use Rattle.zy_home.specs.Idle.{mark_in}
use Rattle.zy_home.specs.Place.{Settles}
use Rattle.zy_home.specs.Home.{Homed, HomeStands, IsSoundHome, IsAt, IsHere, all_here, conns_in, is_settled}
use Rattle.zy_home.proofs.OwnLemmas.{own_is, conn_at}

-- ---- outputs of sessions

length-commands : (stream : List ℕ) → length (commands_of stream) ≡ length (frames_of stream)
length-commands stream = length-map (frames_of stream) command_of

pub cuts : (index : ℕ) (closed : List (List ℕ)) (current : List ℕ) (entries : List Entry)
    → cut_at index (ends_from index closed) (texts_from index (flat_map commands_of (closed ++ current ∷ [])) entries) ≡ outputs_from index (closed ++ current ∷ []) entries
cuts index [] current entries = ap (λ l. texts_from index l entries ∷ []) (append-nil (commands_of current))
cuts index (stream ∷ streams) current entries =
    let first = texts_from index (commands_of stream) entries in
    let next : ℕ = index + length (frames_of stream) in
    let further : ℕ = index + length (commands_of stream) in
    let same : further ≡ next = omega (arith, length-commands stream) in
    let later = λ (n : ℕ). texts_from n (flat_map commands_of (streams ++ current ∷ [])) entries in
    let all : texts_from index (commands_of stream ++ flat_map commands_of (streams ++ current ∷ [])) entries ≡ first ++ later next
    = texts_from-append index (commands_of stream) (flat_map commands_of (streams ++ current ∷ [])) entries ∙ ap (λ n. first ++ later n) same in
    let k : next - index ≡ length first = omega (arith, length-texts_from index (commands_of stream) entries, length-commands stream) in
    (λ i. take (k i) (all i) ∷ cut_at next (ends_from next streams) (drop (k i) (all i)))
    ∙ (λ i. take-append_seam first (later next) i ∷ cut_at next (ends_from next streams) (drop-append_seam first (later next) i))
    ∙ ap (λ l. first ∷ l) (cuts next streams current entries ∙ ap (λ n. outputs_from n (streams ++ current ∷ []) entries) (sym same))

-- ---- tests

both_left : (a b : Bool) → a && b ≡ true → a ≡ true
both_left true b e = refl
both_left false b e = absurd (cc)

both_right : (a b : Bool) → a && b ≡ true → b ≡ true
both_right true b e = e
both_right false b e = absurd (cc)

not_true : (a : Bool) → not a ≡ true → a ≡ false
not_true true e = absurd (cc)
not_true false e = refl

pub settled_here : (h : Homed) → is_settled h ≡ true → all_here h.blocks ≡ true
settled_here h e = both_right (not h.refused) (all_here h.blocks) (both_right h.ended (not h.refused && all_here h.blocks) e)

pub settled_live : (h : Homed) → is_settled h ≡ true → h.refused ≡ false
settled_live h e = not_true h.refused (both_left (not h.refused) (all_here h.blocks) (both_right h.ended (not h.refused && all_here h.blocks) e))

-- ---- connections

pub ended_conns : (links : List Link) → map (λ (e : EndedOutput). e.output.conn) (map ended_of links) ≡ conns_in links
ended_conns [] = refl
ended_conns (l ∷ ls) = ap (λ c. conn_of l ∷ c) (ended_conns ls)

-- a connection whose block is idle in the hand
finished_at : (label : Name) (received : ℕ → Sessions) (pass : Held Blocked) (p : ℕ) (b : Blocked) (l : Link) → IsHere pass p b → IsAt [] pass p l (Some b) → pass.label ≡ label → LinkStands l (received (conn_of l)) → IsHandedOut label received b (ended_of l)
finished_at label received pass p b l here at same stands = record {
  conn = ap (λ (m : Mark). m.0) at.0;
  labelled = here.1 ∙ same;
  finished = λ kept. conn_end b l (received (conn_of l)) kept (at.1 refl) at.0 stands;
}

-- the same of each, at places from one on
all_finished : (label : Name) (received : ℕ → Sessions) (bs : List (Option Blocked)) (ls : List Link) → length bs ≡ length ls → all_here bs ≡ true
    → ((p : ℕ) (b : Blocked) (l : Link) → slice_get bs p ≡ Some (Some b) → slice_get ls p ≡ Some l → IsHandedOut label received b (ended_of l)) → AreFinished label received (blocks_in bs) (map ended_of ls)
all_finished label received [] [] long here each = tt
all_finished label received [] (l ∷ ls) long here each = absurd (omega arith)
all_finished label received (x ∷ bs) [] long here each = absurd (omega arith)
all_finished label received (None ∷ bs) (l ∷ ls) long here each = absurd (cc)
all_finished label received (Some b ∷ bs) (l ∷ ls) long here each =
    (each 0 b l refl refl, all_finished label received bs ls (omega arith) here (λ p b l eb el. each (suc p) b l eb el))

pub home_finished : (h : Homed) (items : List Rx) (received : ℕ → Sessions) → IsSoundHome h → is_settled h ≡ true → HomeStands h items
    → ((conn : ℕ) → home_of h.cores conn ≡ h.core → received_by conn items ≡ received conn) → AreFinished h.pass.label received (blocks_in h.blocks) (map ended_of h.links)
home_finished h items received k settled stands same =
    all_finished h.pass.label received h.blocks h.links k.long (settled_here h settled)
    (λ p b l eb el.
    let own = own_is h.core h.cores h.count p (conn_of l) (ap (λ ns. slice_get ns p) (sym k.conns) ∙ conn_at h.links p l el) in
    finished_at h.pass.label received h.pass p b l (k.here p b eb) (k.each (settled_live h settled) p (Some b) l eb el) refl
    (subst (LinkStands l) (same (conn_of l) own.1) (stands.links p l el)))

-- ---- publications

-- a block that was settled and is away was published
pub published_away : {before : Before} (h h' : Homed) (p : ℕ) (given : Blocked) → Settles before p given h h' → slice_get h'.blocks p ≡ Some None → PublishMakes before mark_in p h.pass h'.pass
published_away {before} h h' p given s gone = go (has_event s.block.work) refl
  where
    go : (b : Bool) → has_event s.block.work ≡ b → PublishMakes before mark_in p h.pass h'.pass
    go true e = s.makes e
    go false e = absurd (let is : Some s.block ≡ None = get_set_same h.blocks p (Some s.block) None (ap (λ bs. slice_get bs p) (sym (s.idle e).1) ∙ gone) in cc)
