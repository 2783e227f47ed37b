-- A text put over a buffer, and lines.
use Rattle.std.proofs.Common.{◌≡◌, ℕ, ◌+◌, ◌*◌, ◌<◌, ◌≤◌, List, [], ◌∷◌, ◌++◌, length, get_or, take, drop, set, sym, refl, ap, ◌∙◌, append_assoc, append-nil, add-one, arith}
use Rattle.std.specs.List.{flat_map}
use lib.Seq.{paste}
use Rattle.std.proofs.lemmas.List.{length-append, take_more, flat_map_more, take_all, drop_all, length-take-le, take-append-drop}
use Rattle.std.proofs.lemmas.List.Edits.{sets-eq, paste_all, paste-paste, length-paste}
use Rattle.frames.specs.Frames.{hex_byte, frame_line, over, check_byte}

pub over_none : (out : List ℕ) (at : ℕ) → out ≡ over out at []
unfolding over
over_none out at = sym (take-append-drop at out) ∙ ap (λ n. take at out ++ drop n out) (omega arith)

over_paste : (out : List ℕ) (at : ℕ) (text : List ℕ) → over out at text ≡ paste out at text (length text)
unfolding over
over_paste out at text = sym (paste_all out at text (length text) refl)

pub length_over : (out : List ℕ) (at : ℕ) (text : List ℕ) → at + length text ≤ length out → length (over out at text) ≡ length out
length_over out at text h = ap length (over_paste out at text) ∙ length-paste out at text (length text) h (omega arith)

-- a text and then another behind it are one text
pub over_next : (out : List ℕ) (at n : ℕ) (a b : List ℕ) → at ≤ length out → n ≡ at + length a → over (over out at a) n b ≡ over out at (a ++ b)
over_next out at n a b h e =
    ap (λ m. over (over out at a) m b) e
    ∙ over_paste (over out at a) (at + length a) b
    ∙ ap (λ o. paste o (at + length a) b (length b)) (over_paste out at a)
    ∙ paste-paste out at a b (length a) (length b) refl refl h
    ∙ ap (paste out at (a ++ b)) (sym (length-append a b))
    ∙ sym (over_paste out at (a ++ b))

-- a text as long as the buffer is all of it
pub over_whole : (out text : List ℕ) → length text ≡ length out → over out 0 text ≡ text
unfolding over
over_whole out text e = ap (λ q. text ++ q) (drop_all (0 + length text) out (omega arith)) ∙ append-nil text

pub over_two : (out : List ℕ) (at a b : ℕ) → at + 2 ≤ length out → set (set out at a) (at + 1) b ≡ over out at (a ∷ b ∷ [])
unfolding over
over_two out at a b h = ap (λ n. set (set out at a) n b) (add-one at) ∙ sets-eq (a ∷ b ∷ []) out at h ∙ append_assoc (take at out) (a ∷ b ∷ []) (drop (at + 2) out)

over_one : (out : List ℕ) (at a : ℕ) → at < length out → set out at a ≡ over out at (a ∷ [])
unfolding over
over_one out at a h = sets-eq (a ∷ []) out at (omega arith) ∙ append_assoc (take at out) (a ∷ []) (drop (at + 1) out)

length_hex : (xs : List ℕ) → length (flat_map hex_byte xs) ≡ 2 * length xs
length_hex [] = refl
length_hex (x ∷ xs) = let e = length_hex xs in omega arith

pub length_line : (xs : List ℕ) → length (frame_line xs) ≡ 2 * length xs + 3
unfolding frame_line
length_line xs = length-append (flat_map hex_byte xs) _ ∙ (let e = length_hex xs in omega arith)

hex_more : (xs : List ℕ) (i : ℕ) → i < length xs → flat_map hex_byte (take i xs) ++ hex_byte (get_or xs i 0) ≡ flat_map hex_byte (take (i + 1) xs)
hex_more xs i h = flat_map_more hex_byte [] (take i xs) (get_or xs i 0) ∙ ap (flat_map hex_byte) (sym (take_more xs i 0 h))

-- a loop that writes the first i bytes of a frame
module _ (out : List ℕ) (at : ℕ) (frame : List ℕ) (room : at + (2 * length frame + 3) ≤ length out)
    (i : ℕ) (o : List ℕ) (e : o ≡ over out at (flat_map hex_byte (take i frame))) where
  length_so_far : i ≤ length frame → length (flat_map hex_byte (take i frame)) ≡ 2 * i
  length_so_far h = length_hex (take i frame) ∙ ap (λ n. 2 * n) (length-take-le i frame h)

  pub byte_more : i < length frame → over o (at + 2 * i) (hex_byte (get_or frame i 0)) ≡ over out at (flat_map hex_byte (take (i + 1) frame))
  byte_more h =
      ap (λ q. over q (at + 2 * i) (hex_byte (get_or frame i 0))) e
      ∙ over_next out at (at + 2 * i) (flat_map hex_byte (take i frame)) (hex_byte (get_or frame i 0)) (omega arith) (omega (arith, length_so_far (omega arith)))
      ∙ ap (over out at) (hex_more frame i h)

  -- and then the check byte and the end
  pub line_all : length frame ≤ i → (b : ℕ) → b ≡ check_byte frame → set (over o (at + 2 * length frame) (hex_byte b)) (at + 2 * length frame + 2) 10 ≡ over out at (frame_line frame)
  unfolding frame_line
  line_all h b f =
      let end = at + 2 * length frame in
      let bytes = flat_map hex_byte frame ++ hex_byte (check_byte frame) in
      let l : over o end (hex_byte b) ≡ over out at bytes =
      ap (λ q. over q end (hex_byte b)) (e ∙ ap (λ q. over out at (flat_map hex_byte q)) (take_all i frame h))
      ∙ over_next out at end (flat_map hex_byte frame) (hex_byte b) (omega arith) (omega (arith, length_hex frame))
      ∙ ap (λ q. over out at (flat_map hex_byte frame ++ hex_byte q)) f in
      let long : length bytes ≡ 2 * length frame + 2 = length-append (flat_map hex_byte frame) (hex_byte (check_byte frame)) ∙ omega (arith, length_hex frame) in
      ap (λ q. set q (end + 2) 10) l
      ∙ over_one _ (end + 2) 10 (omega (arith, length_over out at bytes (omega arith)))
      ∙ over_next out at (end + 2) bytes (10 ∷ []) (omega arith) (omega arith)
      ∙ ap (over out at) (append_assoc (flat_map hex_byte frame) (hex_byte (check_byte frame)) (10 ∷ []))
