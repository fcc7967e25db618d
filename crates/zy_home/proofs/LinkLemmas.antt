-- What a connection may have received after it took an item.
use Rattle.std.specs.Prelude.{flat_map}
use Rattle.std.proofs.Common.{◌≡◌, ℕ, ◌+◌, List, [], ◌∷◌, ◌++◌, length, refl, sym, ap, ◌∙◌, arith, append_assoc, append-nil, length-append}
use Rattle.std.proofs.lemmas.Grind.{flat_map-append}
use Rattle.zy_frame.specs.declared.frame_kind.FrameKind.{FrameKind}
use Rattle.zy_frame.specs.Cut.{frames_of}
use Rattle.zy_frame.specs.Progress.{StandsFor}
use Rattle.zy_frame.proofs.CutLaws.{frames_of_nil}
use Rattle.zy_rx.specs.Session.{Sessions, no_sessions, with_bytes, with_close, streams_of}
use Rattle.zy_conn.specs.Ring.{EventInlet}
use Rattle.zy_home.specs.Link.{Link, LinkStands, IsFresh, frames_in, ends_from}

-- ---- frames of sessions

-- the frames of the closed sessions, and then those of the open one
pub frames_in-split : (s : Sessions) → frames_in s ≡ flat_map frames_of s.closed ++ frames_of s.current
frames_in-split s = flat_map-append frames_of s.closed (s.current ∷ []) ∙ ap (λ l. flat_map frames_of s.closed ++ l) (append-nil (frames_of s.current))

frames_in-close : (s : Sessions) → frames_in (with_close s) ≡ frames_in s
frames_in-close s =
    frames_in-split (with_close s) ∙ ap (λ l. flat_map frames_of (streams_of s) ++ l) frames_of_nil
    ∙ append-nil (frames_in s)

pub frames_in-none : frames_in no_sessions ≡ []
frames_in-none = append-nil (frames_of []) ∙ frames_of_nil

ends_from-push : (before : ℕ) (streams : List (List ℕ)) (last : List ℕ) → ends_from before (streams ++ last ∷ []) ≡ ends_from before streams ++ (before + length (flat_map frames_of streams ++ frames_of last)) ∷ []
ends_from-push before [] last = refl
ends_from-push before (stream ∷ streams) last =
    let at : before + length (frames_of stream) + length (flat_map frames_of streams ++ frames_of last) ≡ before + length ((frames_of stream ++ flat_map frames_of streams) ++ frames_of last)
    = omega (arith, length-append (frames_of stream) (flat_map frames_of streams ++ frames_of last), ap (λ (l : List FrameKind). length l) (append_assoc (frames_of stream) (flat_map frames_of streams) (frames_of last))) in
    ap (λ l. (before + length (frames_of stream)) ∷ l)
    (ends_from-push (before + length (frames_of stream)) streams last
    ∙ ap (λ n. ends_from (before + length (frames_of stream)) streams ++ n ∷ []) at)

-- ---- what the connection may have received

module _ (l m : Link) (s : Sessions) (h : LinkStands l s) where
  -- bytes came that were one request, and its frame was offered or waits
  pub stands_request : (bytes : List ℕ) (frame : FrameKind) → StandsFor m.framer (s.current ++ bytes) → frames_of (s.current ++ bytes) ≡ frames_of s.current ++ frame ∷ []
      → m.inlet.sent ++ m.waiting ≡ l.inlet.sent ++ (l.waiting ++ frame ∷ []) → m.ends ≡ l.ends → m.cut ≡ l.cut + 1 → LinkStands m (with_bytes bytes s)
  stands_request bytes frame framer due offers ends cut =
      let closed = flat_map frames_of s.closed in
      let all : frames_in (with_bytes bytes s) ≡ frames_in s ++ frame ∷ [] = frames_in-split (with_bytes bytes s) ∙ ap (λ (f : List FrameKind). closed ++ f) due
      ∙ sym (append_assoc closed (frames_of s.current) (frame ∷ [])) ∙ ap (λ (f : List FrameKind). f ++ frame ∷ []) (sym (frames_in-split s)) in
      record {
        framer = framer;
        frames = offers ∙ sym (append_assoc l.inlet.sent l.waiting (frame ∷ [])) ∙ ap (λ (f : List FrameKind). f ++ frame ∷ []) h.frames ∙ sym all;
        ends = ends ∙ h.ends;
        cut = omega (arith, cut, h.cut, ap (λ (f : List FrameKind). length f) all, length-append (frames_in s) (frame ∷ []));
      }

  -- the session was closed
  pub stands_close : m.inlet ≡ l.inlet → m.waiting ≡ l.waiting → m.ends ≡ l.ends ++ l.cut ∷ [] → StandsFor m.framer [] → m.cut ≡ l.cut → LinkStands m (with_close s)
  stands_close inlet waiting ends framer cut =
      let all = frames_in-close s in
      let at : l.cut ≡ 0 + length (flat_map frames_of s.closed ++ frames_of s.current) = omega (arith, h.cut, ap (λ (f : List FrameKind). length f) (frames_in-split s)) in record {
        framer = framer;
        frames = (λ i. (inlet i).sent ++ waiting i) ∙ h.frames ∙ sym all;
        ends = ends ∙ (λ i. h.ends i ++ at i ∷ []) ∙ sym (ends_from-push 0 s.closed s.current);
        cut = cut ∙ h.cut ∙ ap (λ (f : List FrameKind). length f) (sym all);
      }

-- a fresh connection has received nothing
pub stands_fresh : (conn : ℕ) (inlet : EventInlet) (l : Link) → IsFresh conn inlet l → inlet.sent ≡ [] → LinkStands l no_sessions
stands_fresh conn inlet l f none = record {
  framer = f.framer;
  frames = (λ i. (f.inlet_is i).sent ++ f.waiting i) ∙ append-nil inlet.sent ∙ none ∙ sym frames_in-none;
  ends = f.ends;
  cut = f.cut ∙ ap (λ (l : List FrameKind). length l) (sym frames_in-none);
}
