-- The keys to which frames give an exptime.
use Rattle.std.proofs.Common.{◌≡◌, ℕ, Bool, true, false, cond, List, [], ◌∷◌, ◌++◌, Some, inl, inr, ⊎_elim, refl, sym, ap, ◌∙◌, subst, arith}
use Rattle.std.specs.Prelude.{◌⊎◌}
use Rattle.std.specs.BTreeMap.{is_at}
use Rattle.std.specs.BTreeSet.{BTreeSet, contains, Updates}
use Rattle.std.specs.Cmp.Lexicographic.{slice_cmp}
use Rattle.std.specs.FinMap.{nat_cmp-IsAntisymmetric, slice_cmp-IsAntisymmetric}
use Rattle.std.specs.List.{Contains}
use Rattle.std.specs.Ordering.{nat_cmp, is_eq}
use Rattle.std.specs.declared.cmp.Ordering.{Ordering}
use Rattle.std.specs.declared.cmp.Ordering.TheVariants.{Less, Equal, Greater}
use Rattle.std.proofs.lemmas.List.Elements.{Contains-append_left, Contains-append_right, Contains-append_cases, Contains-push, Contains-push_cases}
use mathlib.Core.Logic.{dite}
use native.Mathlib.Decide.{ℕ_discrete}
use Rattle.zy_capture.specs.declared.record.Record.{Record}
use Rattle.zy_capture.specs.Streams.{stream}
use Rattle.zy_frame.specs.declared.frame_kind.FrameKind.{FrameKind}
use Rattle.zy_frame.specs.Cut.{frames_of}
use Rattle.zy_verdict.specs.Losses.{HasExptimeIn, key_with_exptime}
use Rattle.zy_sessions.specs.Noting.{Has, AddsKey, GiveExptime, AddsKeys}
use Rattle.zy_sessions.specs.Sessions.{LastingHolds}

-- ---- one key

is_equal : (order : Ordering) → is_eq order ≡ true → order ≡ Equal
is_equal Less is = cc
is_equal Equal is = refl
is_equal Greater is = cc

-- the key that was inserted, or one from before
inserted : (b : Bool) (old : Bool) → cond b true old ≡ true → (b ≡ true) ⊎ (old ≡ true)
inserted true old is = inl refl
inserted false old is = inr is

stays : (b : Bool) (old : Bool) → old ≡ true → cond b true old ≡ true
stays true old is = refl
stays false old is = is

pub key_added : (old new : BTreeSet (List ℕ)) (key : List ℕ) → Updates (slice_cmp nat_cmp) old new key true → AddsKey old new (Some key)
key_added old new key updates other = (
  λ has. ⊎_elim
      (λ (at : is_at (slice_cmp nat_cmp key) other ≡ true).
      inr (ap Some (slice_cmp-IsAntisymmetric nat_cmp-IsAntisymmetric key other (is_equal (slice_cmp nat_cmp key other) at))))
      (λ (before : Has old other). inl before)
      (inserted (is_at (slice_cmp nat_cmp key) other) (contains (slice_cmp nat_cmp) old other) (sym (updates.0 other) ∙ has)),
  λ either. ⊎_elim
      (λ (before : Has old other). updates.0 other ∙ stays (is_at (slice_cmp nat_cmp key) other) (contains (slice_cmp nat_cmp) old other) before)
      (λ (is : Some key ≡ Some other). let same : key ≡ other = cc in subst (Has new) same updates.1)
      either,
)

-- ---- several frames

-- the first frame adds its key, and the others add theirs
pub keys_more : (old mid new : BTreeSet (List ℕ)) (frame : FrameKind) (frames : List FrameKind) → AddsKey old mid (key_with_exptime frame) → AddsKeys mid new frames → AddsKeys old new (frame ∷ frames)
keys_more old mid new frame frames one rest key = (
  λ has. ⊎_elim
      (λ (in_mid : Has mid key). ⊎_elim
      (λ (before : Has old key). inl before)
      (λ (is : key_with_exptime frame ≡ Some key). inr (inl is))
      ((one key).0 in_mid))
      (λ (later : GiveExptime frames key). inr (inr later))
      ((rest key).0 has),
  λ either. ⊎_elim
      (λ (before : Has old key). (rest key).1 (inl ((one key).1 (inl before))))
      (λ (given : GiveExptime (frame ∷ frames) key). ⊎_elim
      (λ (is : key_with_exptime frame ≡ Some key). (rest key).1 (inl ((one key).1 (inr is))))
      (λ (later : GiveExptime frames key). (rest key).1 (inr later))
      given)
      either,
)

-- one of several frames gives the key an exptime
pub record Gives (frames : List FrameKind) (key : List ℕ) : Type 0 where
  pub frame : FrameKind
  pub sent : Contains frames frame
  pub given : key_with_exptime frame ≡ Some key

pub gives : (frames : List FrameKind) (key : List ℕ) → GiveExptime frames key → Gives frames key
gives [] key none = absurd none
gives (frame ∷ frames) key either = ⊎_elim
    (λ (is : key_with_exptime frame ≡ Some key). record { frame = frame; sent = Contains-append_left (frame ∷ []) frames frame (Contains-push [] frame); given = is })
    (λ (later : GiveExptime frames key).
    let at = gives frames key later in
    record { frame = at.frame; sent = Contains-append_right (frame ∷ []) frames at.frame at.sent; given = at.given })
    either

pub given_by : (frames : List FrameKind) (key : List ℕ) → Gives frames key → GiveExptime frames key
given_by [] key at = absurd (let within = at.sent.1 in omega (arith, within))
given_by (frame ∷ frames) key at = ⊎_elim
    (λ (first : Contains (frame ∷ []) at.frame). ⊎_elim
    (λ (none : Contains [] at.frame). absurd (let within = none.1 in omega (arith, within)))
    (λ (same : frame ≡ at.frame). inl (ap key_with_exptime same ∙ at.given))
    (Contains-push_cases [] frame at.frame first))
    (λ (later : Contains frames at.frame). inr (given_by frames key (record { frame = at.frame; sent = later; given = at.given })))
    (Contains-append_cases (frame ∷ []) frames at.frame at.sent)

-- ---- all records

-- the frames of each session are the same
pub lasting_same : (lasting : BTreeSet (List ℕ)) (old new : List Record) → ((conn session : ℕ) → frames_of (stream conn session new) ≡ frames_of (stream conn session old)) → LastingHolds lasting old → LastingHolds lasting new
lasting_same lasting old new same holds key = (
  λ has.
      let at = (holds key).0 has in
      record {
        conn = at.conn;
        session = at.session;
        frame = at.frame;
        sent = subst (λ (frames : List FrameKind). Contains frames at.frame) (sym (same at.conn at.session)) at.sent;
        given = at.given;
      },
  λ at. (holds key).1 (record {
    conn = at.conn;
    session = at.session;
    frame = at.frame;
    sent = subst (λ (frames : List FrameKind). Contains frames at.frame) (same at.conn at.session) at.sent;
    given = at.given;
  }),
)

-- a session is this one or another
pair_or : {R : Type 0} (c k conn session : ℕ) → (c ≡ conn → k ≡ session → R) → (((c ≡ conn) × (k ≡ session) → ⊥) → R) → R
pair_or c k conn session here elsewhere = dite (ℕ_discrete c conn)
    (λ mine. dite (ℕ_discrete k session) (λ at. here mine at) (λ other. elsewhere (λ both. other both.1)))
    (λ other. elsewhere (λ both. other both.0))

-- one session has further frames
pub lasting_more : (before after : BTreeSet (List ℕ)) (old new : List Record) (conn session : ℕ) (given : List FrameKind)
    → frames_of (stream conn session new) ≡ frames_of (stream conn session old) ++ given
    → ((c k : ℕ) → ((c ≡ conn) × (k ≡ session) → ⊥) → frames_of (stream c k new) ≡ frames_of (stream c k old))
    → AddsKeys before after given → LastingHolds before old → LastingHolds after new
lasting_more before after old new conn session given more same adds holds key = (forth, back)
  where
    from_before : HasExptimeIn old key → HasExptimeIn new key
    from_before at = record {
      conn = at.conn;
      session = at.session;
      frame = at.frame;
      sent = kept at.conn at.session at.frame at.sent;
      given = at.given;
    }
      where
        kept : (c k : ℕ) (frame : FrameKind) → Contains (frames_of (stream c k old)) frame → Contains (frames_of (stream c k new)) frame
        kept c k frame sent = pair_or c k conn session
            (λ mine at.
            subst (λ (frames : List FrameKind). Contains frames frame) (sym ((λ i. frames_of (stream (mine i) (at i) new)) ∙ more))
            (Contains-append_left (frames_of (stream conn session old)) given frame
            (subst (λ (frames : List FrameKind). Contains frames frame) (λ i. frames_of (stream (mine i) (at i) old)) sent)))
            (λ elsewhere. subst (λ (frames : List FrameKind). Contains frames frame) (sym (same c k elsewhere)) sent)

    forth : Has after key → HasExptimeIn new key
    forth has = ⊎_elim
        (λ (in_before : Has before key). from_before ((holds key).0 in_before))
        (λ (new_one : GiveExptime given key).
        let at = gives given key new_one in
        record {
          conn = conn;
          session = session;
          frame = at.frame;
          sent = subst (λ (frames : List FrameKind). Contains frames at.frame) (sym more) (Contains-append_right (frames_of (stream conn session old)) given at.frame at.sent);
          given = at.given;
        })
        ((adds key).0 has)

    back : HasExptimeIn new key → Has after key
    back at = pair_or at.conn at.session conn session
        (λ mine here.
        ⊎_elim
        (λ (first : Contains (frames_of (stream conn session old)) at.frame).
        (adds key).1 (inl ((holds key).1 (record { conn = conn; session = session; frame = at.frame; sent = first; given = at.given }))))
        (λ (later : Contains given at.frame). (adds key).1 (inr (given_by given key (record { frame = at.frame; sent = later; given = at.given }))))
        (Contains-append_cases (frames_of (stream conn session old)) given at.frame
        (subst (λ (frames : List FrameKind). Contains frames at.frame) ((λ i. frames_of (stream (mine i) (here i) new)) ∙ more) at.sent)))
        (λ elsewhere.
        (adds key).1 (inl ((holds key).1 (record {
          conn = at.conn;
          session = at.session;
          frame = at.frame;
          sent = subst (λ (frames : List FrameKind). Contains frames at.frame) (same at.conn at.session elsewhere) at.sent;
          given = at.given;
        }))))
