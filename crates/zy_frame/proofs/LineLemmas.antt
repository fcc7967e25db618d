-- Where the first line of joined texts ends, and that a line is never longer than with its carriage return.
use Rattle.std.proofs.Common.{◌≡◌, ℕ, true, false, List, [], ◌∷◌, ◌++◌, refl, sym, ap, ◌∙◌, subst, arith}
use Rattle.std.specs.Prelude.{Option, None, Some, ◌==◌, if◌then◌else◌, Bool}
use Rattle.std.proofs.lemmas.Bool.Decides.{nat_tests}
use Rattle.zy_frame.specs.Line.{Ended, first_line, begun_by, line_feed}

abbrev pub ended : List ℕ → List ℕ → Ended
ended line after = record { line = line; after = after }

-- the text is put in front of the line
abbrev pub begun_with : List ℕ → Option Ended → Option Ended
begun_with text None = None
begun_with text (Some e) = Some (ended (text ++ e.line) e.after)

begun_with-nil : (found : Option Ended) → begun_with [] found ≡ found
begun_with-nil None = refl
begun_with-nil (Some e) = refl

begun_with-cons : (byte : ℕ) (text : List ℕ) (found : Option Ended) → begun_by byte (begun_with text found) ≡ begun_with (byte ∷ text) found
begun_with-cons byte text None = refl
begun_with-cons byte text (Some e) = refl

-- a byte that begins a text without a line feed is none
record Begins (byte : ℕ) (bytes : List ℕ) : Type 0 where
  other : (byte == line_feed) ≡ false
  none : first_line bytes ≡ None

begun_by-none : (byte : ℕ) (found : Option Ended) → begun_by byte found ≡ None → found ≡ None
begun_by-none byte None is = refl
begun_by-none byte (Some e) is = cc

begins-by : (test : Bool) (byte : ℕ) (bytes : List ℕ) → (byte == line_feed) ≡ test
    → (if test then Some (ended [] bytes) else begun_by byte (first_line bytes)) ≡ None → Begins byte bytes
begins-by true byte bytes same is = cc
begins-by false byte bytes same is = record { other = same; none = begun_by-none byte (first_line bytes) is }

begins : (byte : ℕ) (bytes : List ℕ) → first_line (byte ∷ bytes) ≡ None → Begins byte bytes
begins byte bytes is = begins-by (byte == line_feed) byte bytes refl is

-- a text without a line feed is put in front of a line
pub first_line-append : (text more : List ℕ) → first_line text ≡ None → first_line (text ++ more) ≡ begun_with text (first_line more)
first_line-append [] more none = sym (begun_with-nil (first_line more))
first_line-append (byte ∷ bytes) more none =
    let b = begins byte bytes none in
    rw b.other (ap (begun_by byte) (first_line-append bytes more b.none) ∙ begun_with-cons byte bytes (first_line more))

-- two texts without a line feed have none together
pub first_line-append_none : (text more : List ℕ) → first_line text ≡ None → first_line more ≡ None → first_line (text ++ more) ≡ None
first_line-append_none text more none nor = first_line-append text more none ∙ ap (begun_with text) nor

-- a text without a line feed, and then a line feed
pub first_line-ended : (text more : List ℕ) → first_line text ≡ None → first_line (text ++ line_feed ∷ more) ≡ Some (ended text more)
first_line-ended [] more none = refl
first_line-ended (byte ∷ bytes) more none =
    let b = begins byte bytes none in
    rw b.other (ap (begun_by byte) (first_line-ended bytes more b.none))

-- what a first line shows of its text
pub record Spelled (text : List ℕ) (e : Ended) : Type 0 where
  pub text_is : text ≡ e.line ++ line_feed ∷ e.after
  pub no_feed : first_line e.line ≡ None

spelled-in : (byte : ℕ) (bytes : List ℕ) (found : Option Ended) → (byte == line_feed) ≡ false
    → ((inner : Ended) → found ≡ Some inner → Spelled bytes inner) → (e : Ended) → begun_by byte found ≡ Some e → Spelled (byte ∷ bytes) e
spelled-in byte bytes None other there e is = cc
spelled-in byte bytes (Some inner) other there e is =
    let within = there inner refl in
    let e_is : ended (byte ∷ inner.line) inner.after ≡ e = cc in
    subst (Spelled (byte ∷ bytes)) e_is (record {
      text_is = ap (λ (l : List ℕ). byte ∷ l) within.text_is;
      no_feed = rw other (ap (begun_by byte) within.no_feed);
    })

spelled-by : (test : Bool) (byte : ℕ) (bytes : List ℕ) → (byte == line_feed) ≡ test
    → ((inner : Ended) → first_line bytes ≡ Some inner → Spelled bytes inner) → (e : Ended)
    → (if test then Some (ended [] bytes) else begun_by byte (first_line bytes)) ≡ Some e → Spelled (byte ∷ bytes) e
spelled-by true byte bytes same there e is =
    let feed : byte ≡ line_feed = grind (arith, nat_tests) in
    let e_is : ended [] bytes ≡ e = cc in
    subst (Spelled (byte ∷ bytes)) e_is (record { text_is = ap (λ (b : ℕ). b ∷ bytes) feed; no_feed = refl })
spelled-by false byte bytes same there e is = spelled-in byte bytes (first_line bytes) same there e is

pub spelled : (text : List ℕ) (e : Ended) → first_line text ≡ Some e → Spelled text e
spelled [] e is = cc
spelled (byte ∷ bytes) e is = spelled-by (byte == line_feed) byte bytes refl (spelled bytes) e is
