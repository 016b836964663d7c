-- What is read of a written flit is what was written. A sealed flit keeps its first 56 bytes and its DL content below bit 28, where the check
-- begins, and every field but the check stands there. So the fields read are those of the content that was written, and it was written as
-- the sum of its fields, each below the next one's place.
use mathlib.Core.Path.{◌≡◌, refl, sym, ap, ap₂, ◌∙◌, subst}
use mathlib.Core.Bool.{Bool, true, false}
use mathlib.Core.List.{List, [], ◌++◌}
use Prim.Native.Nat.{ℕ, ◌+◌, ◌-◌, ◌*◌, ◌/◌, ◌%◌, ◌^◌, ◌<◌, ◌≤◌}
use native.Mathlib.Nat.{mod-eq_of_lt}
use native.Mathlib.Omega.{arith}
use borrow.Author.Tests.{leb-true, eqb-true, eq-eqb}
use lib.Dec.{eqb, leb}
use lib.ListN.{length, take, drop, get_or, replicate, length-append, length-drop, take-append-drop}
use lib.Seq.{take-add, drop_at, take_at, take-take, length-take-le, drop-append_seam, get_or-drop, get_or-append-add}
use Rattle.std.proofs.lemmas.Bool.{and_parts}
use Rattle.crc.specs.Unit.{AllBytes, right}
use Rattle.crc.specs.Register.{bit_value}
use Rattle.crc.specs.Seal.{sealed}
use Rattle.crc.proofs.Sealing.{length_sealed, sealed_keeps_bytes, sealed_keeps_half, sealed_bytes, sealed_right}
use Rattle.flit_write.specs.declared.Replay.{Replay}
use Rattle.flit_read.specs.Bytes.{number, bytes, read, marked, mark, span, bit}
use Rattle.flit_read.specs.Fields.{content, replay_content, ack_count, data_stalled, short_flit_next, replay_kind, idle_kind, fields_of, acceptable}
use Rattle.flit_write.specs.Flits.{with_content, bare_control, control_told, idle_flit, replay_flit}
use Rattle.flit_read.proofs.Laws.{append_bytes, zero_bytes, take_bytes, drop_bytes, number_below, number_part, number_first, number_bytes, bytes_number, bytes_are, length_bytes, replay_number, replay_field}
use Rattle.flit_write.proofs.Written.{mark_le}
use Rattle.flit_write.proofs.Numbers.{replay_told, replay_parts}

-- ---- a flit and the same flit with its check

-- g is a flit like f in all but its check
pub record SameButCheck (f g : List ℕ) : Type 0 where
  pub size : length g ≡ 64
  pub are_bytes : AllBytes g
  pub front : take 56 g ≡ take 56 f
  pub below : content g % 2 ^ 28 ≡ content f % 2 ^ 28

take_drop : (n m : ℕ) (l : List ℕ) → n ≤ length l → take m (drop n l) ≡ drop n (take (n + m) l)
take_drop n m l h = sym (ap (drop n) (take-add n m l) ∙ drop_at (take n l) (take m (drop n l)) n (length-take-le n l h))

below_check : (f g : List ℕ) → length f ≡ 64 → length g ≡ 64 → take 59 g ≡ take 59 f → get_or g 59 0 % 16 ≡ get_or f 59 0 % 16
    → content g % 2 ^ 28 ≡ content f % 2 ^ 28
below_check f g lf lg e h =
    let a : number (take 3 (drop 56 g)) ≡ number (take 3 (drop 56 f)) =
    ap number (take_drop 56 3 g (omega arith) ∙ ap (drop 56) e ∙ sym (take_drop 56 3 f (omega arith))) in
    let pg = number_part 3 g 56 (omega arith) in
    let pf = number_part 3 f 56 (omega arith) in
    let qg = number_first g 59 (omega arith) in
    let qf = number_first f 59 (omega arith) in omega arith

-- the closing flit of a sealed unit
pub sealed_last : (d f : List ℕ) → AllBytes (d ++ f) → length f ≡ 64 → SameButCheck f (drop (length d) (sealed (d ++ f)))
sealed_last d f b l =
    let u = d ++ f in
    let n = length d in
    let g = drop n (sealed u) in
    let lu : length u ≡ n + 64 = length-append d f ∙ ap (λ (m : ℕ). n + m) l in
    let ls : length (sealed u) ≡ n + 64 = length_sealed u ∙ lu in
    let lg : length g ≡ 64 = length-drop n (sealed u) ∙ omega arith in
    let five : length u - 5 ≡ n + 59 = omega arith in
    let kept : take (n + 59) (sealed u) ≡ take (n + 59) u = rw five at (sealed_keeps_bytes u) in
    let front : take 59 g ≡ take 59 f =
    take_drop n 59 (sealed u) (omega arith) ∙ ap (drop n) kept ∙ sym (take_drop n 59 u (omega arith))
    ∙ ap (take 59) (drop-append_seam d f) in
    let half : get_or g 59 0 % 16 ≡ get_or f 59 0 % 16 =
    ap (λ (x : ℕ). x % 16) (get_or-drop n (sealed u) 59 0) ∙ rw five at (sealed_keeps_half u) ∙ ap (λ (x : ℕ). x % 16) (get_or-append-add d f 59 0) in
    record {
      size = lg;
      are_bytes = λ i. rw get_or-drop (sealed_bytes u b (n + i));
      front = sym (take-take 56 59 g (omega arith)) ∙ ap (take 56) front ∙ take-take 56 59 f (omega arith);
      below = below_check f g l lg front half;
    }

-- ---- what a DL content tells

-- x has y below bit 18, then short flit next 0, the marks b and n at bits 19 and 20, and the ACK count a
record Told (x y a : ℕ) (b n : Bool) : Type 0 where
  low : x % 2 ^ 18 ≡ y
  short : marked short_flit_next x ≡ false
  stalled : marked data_stalled x ≡ b
  nacked : marked (bit 20) x ≡ n
  acks : read ack_count x ≡ a

-- a mark as a bit
mark_digit : (k : ℕ) (b : Bool) → mark (bit k) b ≡ bit_value b * 2 ^ k
mark_digit k true = refl
mark_digit k false = omega arith

digit_le : (b : Bool) → bit_value b ≤ 1
digit_le true = omega arith
digit_le false = omega arith

digit_mark : (n : ℕ) (b : Bool) → n ≡ bit_value b → eqb n 1 ≡ b
digit_mark n true e = eq-eqb n 1 e
digit_mark n false e = ap (λ (m : ℕ). eqb m 1) e

told : (x y a : ℕ) (b n : Bool) → y < 2 ^ 18 → a ≤ 31 → x % 2 ^ 28 ≡ y + mark data_stalled b + mark (bit 20) n + a * 2 ^ 23
    → Told x y a b n
told x y a b n h k e =
    let b_bit = mark_digit 19 b in
    let n_bit = mark_digit 20 n in
    let b_le = digit_le b in
    let n_le = digit_le n in
    record {
      low = omega arith;
      short = digit_mark (read short_flit_next x) false (omega arith);
      stalled = digit_mark (read data_stalled x) b (omega arith);
      nacked = digit_mark (read (bit 20) x) n (omega arith);
      acks = omega arith;
    }

-- ---- idle

pub record IdleRead (acks : ℕ) (stalled : Bool) (owed : ℕ) (flit : List ℕ) : Type 0 where
  pub size : length flit ≡ 64
  pub are_bytes : AllBytes flit
  pub right_alone : right flit ≡ true
  pub is_idle : (fields_of flit).run.0 ≡ idle_kind
  pub acks_read : (fields_of flit).acks.0 ≡ acks
  pub stalled_read : (fields_of flit).stalled ≡ stalled
  pub owed_read : (fields_of flit).stall.0 ≡ owed
  pub short_read : (fields_of flit).short ≡ false

pub idle_read : (acks : ℕ) (stalled : Bool) (owed : ℕ) → acks ≤ 31 → owed ≤ 15 → IdleRead acks stalled owed (idle_flit acks stalled owed)
unfolding idle_flit fields_of
idle_read acks stalled owed ha ho =
    let y = 15 * 2 ^ 0 + owed * 2 ^ 4 in
    let x = y + mark data_stalled stalled + acks * 2 ^ 23 in
    let f = replicate 56 0 ++ bytes 8 x in
    let lf : length f ≡ 64 = length-append (replicate 56 0) (bytes 8 x) ∙ ap (λ (n : ℕ). 56 + n) (length_bytes 8 x) in
    let s = sealed_last [] f (append_bytes (replicate 56 0) (bytes 8 x) (zero_bytes 56) (bytes_are 8 x)) lf in
    let m = mark_le data_stalled stalled in
    let e : content f ≡ x % 2 ^ 64 = number_bytes 8 x in
    let t = told (content (sealed f)) y acks stalled false (omega arith) ha (omega (arith, s.below)) in
    record {
      size = s.size;
      are_bytes = s.are_bytes;
      right_alone = sealed_right f (omega arith);
      is_idle = omega (arith, t.low);
      acks_read = t.acks;
      stalled_read = t.stalled;
      owed_read = omega (arith, t.low);
      short_read = t.short;
    }

-- ---- replay

pub record ReplayRead (r : Replay) (flit : List ℕ) : Type 0 where
  pub size : length flit ≡ 64
  pub are_bytes : AllBytes flit
  pub right_alone : right flit ≡ true
  pub is_replay : (fields_of flit).run.0 ≡ replay_kind
  pub previous_read : (fields_of flit).previous ≡ r.previous
  pub starting_read : (fields_of flit).start ≡ r.start
  pub acknowledge_read : (fields_of flit).last ≡ r.last
  pub information_read : (fields_of flit).information ≡ r.information
  pub stalled_read : (fields_of flit).stalled ≡ r.stalled
  pub nack_read : (fields_of flit).nack ≡ r.nack
  pub short_read : (fields_of flit).short ≡ false

-- a part of the first 56 bytes is the same
same_part : (f g : List ℕ) → length f ≡ 64 → SameButCheck f g → (k n : ℕ) → k + n ≤ 56 → take n (drop k g) ≡ take n (drop k f)
same_part f g l s k n h =
    take_drop k n g (omega (arith, s.size)) ∙ ap (drop k) (sym (take-take (k + n) 56 g h) ∙ ap (take (k + n)) s.front ∙ take-take (k + n) 56 f h)
    ∙ sym (take_drop k n f (omega arith))

-- the four numbers, read
module _ (i a s x : ℕ) where
  abbrev four : List ℕ
  four = replicate 44 0 ++ (bytes 8 i ++ (bytes 2 a ++ (bytes 2 s ++ bytes 8 x)))

  four_size : length four ≡ 64
  unfolding bytes
  four_size = refl

  four_bytes : AllBytes four
  four_bytes =
      append_bytes (replicate 44 0) (bytes 8 i ++ (bytes 2 a ++ (bytes 2 s ++ bytes 8 x))) (zero_bytes 44)
      (append_bytes (bytes 8 i) (bytes 2 a ++ (bytes 2 s ++ bytes 8 x)) (bytes_are 8 i)
      (append_bytes (bytes 2 a) (bytes 2 s ++ bytes 8 x) (bytes_are 2 a) (append_bytes (bytes 2 s) (bytes 8 x) (bytes_are 2 s) (bytes_are 8 x))))

  four_information : take 8 (drop 44 four) ≡ bytes 8 i
  unfolding bytes
  four_information = refl

  four_acknowledge : take 2 (drop 52 four) ≡ bytes 2 a
  unfolding bytes
  four_acknowledge = refl

  four_starting : take 2 (drop 54 four) ≡ bytes 2 s
  unfolding bytes
  four_starting = refl

  four_content : drop 56 four ≡ bytes 8 x
  unfolding bytes
  four_content = refl

-- what was written in n bytes from bit 8 k of the replay content on
number_read : (f g : List ℕ) → length f ≡ 64 → SameButCheck f g → (k n v : ℕ) → k + n ≤ 12 → v < 256 ^ n → take n (drop (44 + k) f) ≡ bytes n v
    → replay_content g / 256 ^ k % 256 ^ n ≡ v
number_read f g l s k n v h small e =
    replay_number k n g s.are_bytes ∙ ap number (same_part f g l s (44 + k) n (omega arith) ∙ e) ∙ number_bytes n v ∙ mod-eq_of_lt small

pub replay_read : (r : Replay) → r.information < 2 ^ 64 → r.last.0 < 2 ^ 16 → r.start.0 < 2 ^ 16
    → r.previous.0 ≤ 15 → r.errors < 256 → ReplayRead r (replay_flit r)
unfolding fields_of
replay_read r hi ha hs hp he =
    let i = r.information in
    let a = r.last.0 in
    let s = r.start.0 in
    let y = 10 + 16 * r.previous.0 + 256 * r.errors in
    let x = replay_told r in
    let f = four i a s x in
    let lf = four_size i a s x in
    rw (replay_parts r hi ha hs)
    (let p = sealed_last [] f (four_bytes i a s x) lf in
    let g = sealed f in
    let m = mark_le data_stalled r.stalled in
    let n = mark_le (bit 20) r.nack in
    let e : content f ≡ x % 2 ^ 64 = ap number (four_content i a s x) ∙ number_bytes 8 x in
    let t = told (content g) y 0 r.stalled r.nack (omega arith) (omega arith) (omega (arith, p.below)) in
    let previous : read (span 103 100) (replay_content g) ≡ r.previous.0 =
    replay_field g p.are_bytes 7 4 ∙ omega (arith, t.low) in
    let starting = number_read f g lf p 10 2 s (omega arith) hs (four_starting i a s x) in
    let acknowledge = number_read f g lf p 8 2 a (omega arith) ha (four_acknowledge i a s x) in
    record {
      size = p.size;
      are_bytes = p.are_bytes;
      right_alone = sealed_right f (omega arith);
      is_replay = omega (arith, t.low);
      previous_read = λ k. record { 0 = previous k };
      starting_read = λ k. record { 0 = starting k };
      acknowledge_read = λ k. record { 0 = acknowledge k };
      information_read = number_read f g lf p 0 8 i (omega arith) hi (four_information i a s x);
      stalled_read = t.stalled;
      nack_read = ap (λ (b : ℕ). eqb b 1) (replay_field g p.are_bytes 20 20) ∙ t.nacked;
      short_read = t.short;
    })

-- ---- control

pub record ControlRead (flit : List ℕ) (acks : ℕ) (stalled : Bool) (g : List ℕ) : Type 0 where
  pub size : length g ≡ 64
  pub are_bytes : AllBytes g
  pub run_read : (fields_of g).run ≡ (fields_of flit).run
  pub acks_read : (fields_of g).acks.0 ≡ acks
  pub stalled_read : (fields_of g).stalled ≡ stalled
  pub short_read : (fields_of g).short ≡ false
  pub bare : bare_control g ≡ flit

-- a flit that accept takes: its run length is that of a control flit, and its content is all below bit 18
pub record Acceptable (flit : List ℕ) : Type 0 where
  pub run : (fields_of flit).run.0 ≤ 8
  pub small : content flit < 2 ^ 18

content_below : (flit : List ℕ) → length flit ≡ 64 → AllBytes flit → content flit < 2 ^ 64
content_below flit l h =
    let b = number_below (drop 56 flit) (drop_bytes 56 flit h) in
    let n : length (drop 56 flit) ≡ 8 = length-drop 56 flit ∙ omega arith in
    subst (λ (k : ℕ). content flit < 256 ^ k) n b

pub acceptable_is : (flit : List ℕ) → length flit ≡ 64 → AllBytes flit → acceptable flit ≡ true → Acceptable flit
unfolding acceptable fields_of
acceptable_is flit l h e =
    let c = content_below flit l h in
    let parts = and_parts (leb (content flit / 2 ^ 0 % 2 ^ 4) 8) (eqb (content flit / 2 ^ 18 % 2 ^ 46) 0) e in
    record {
      run = leb-true (content flit / 2 ^ 0 % 2 ^ 4) 8 parts.0;
      small = omega (arith, eqb-true (content flit / 2 ^ 18 % 2 ^ 46) 0 parts.1);
    }

-- the flit with another DL content
module _ (flit : List ℕ) (l : length flit ≡ 64) (c : ℕ) where
  with_front : take 56 (with_content flit c) ≡ take 56 flit
  with_front = take_at (take 56 flit) (bytes 8 c) 56 (length-take-le 56 flit (omega arith))

  with_size : length (with_content flit c) ≡ 64
  with_size =
      length-append (take 56 flit) (bytes 8 c) ∙ ap₂ (λ (m n : ℕ). m + n) (length-take-le 56 flit (omega arith)) (length_bytes 8 c)

  with_bytes : AllBytes flit → AllBytes (with_content flit c)
  with_bytes h = append_bytes (take 56 flit) (bytes 8 c) (take_bytes 56 flit h) (bytes_are 8 c)

  content_with : content (with_content flit c) ≡ c % 2 ^ 64
  content_with = ap number (drop_at (take 56 flit) (bytes 8 c) 56 (length-take-le 56 flit (omega arith))) ∙ number_bytes 8 c

-- a flit is its first 56 bytes and its content
whole : (flit : List ℕ) → length flit ≡ 64 → AllBytes flit → with_content flit (content flit) ≡ flit
whole flit l h =
    let n : length (drop 56 flit) ≡ 8 = length-drop 56 flit ∙ omega arith in
    ap (λ (t : List ℕ). take 56 flit ++ t)
    (ap (λ (k : ℕ). bytes k (content flit)) (sym n) ∙ bytes_number (drop 56 flit) (drop_bytes 56 flit h))
    ∙ take-append-drop 56 flit

-- a flit that accept takes has its upper bits zero already
pub bare_acceptable : (flit : List ℕ) → length flit ≡ 64 → AllBytes flit → acceptable flit ≡ true → bare_control flit ≡ flit
unfolding bare_control
bare_acceptable flit l h e =
    ap (with_content flit) (mod-eq_of_lt (acceptable_is flit l h e).small) ∙ whole flit l h

pub control_told_size : (flit : List ℕ) (acks : ℕ) (stalled : Bool) → length flit ≡ 64 → length (control_told flit acks stalled) ≡ 64
unfolding control_told
control_told_size flit acks stalled l = with_size flit l (content flit % 2 ^ 18 + mark data_stalled stalled + acks * 2 ^ 23)

pub control_told_bytes : (flit : List ℕ) (acks : ℕ) (stalled : Bool) → length flit ≡ 64 → AllBytes flit → AllBytes (control_told flit acks stalled)
unfolding control_told
control_told_bytes flit acks stalled l = with_bytes flit l (content flit % 2 ^ 18 + mark data_stalled stalled + acks * 2 ^ 23)

pub control_read : (flit : List ℕ) (acks : ℕ) (stalled : Bool) (g : List ℕ) → length flit ≡ 64 → AllBytes flit → acceptable flit ≡ true → acks ≤ 31
    → SameButCheck (control_told flit acks stalled) g → ControlRead flit acks stalled g
unfolding control_told bare_control fields_of
control_read flit acks stalled g l h e ha s =
    let y = content flit in
    let small = (acceptable_is flit l h e).small in
    let x = y % 2 ^ 18 + mark data_stalled stalled + acks * 2 ^ 23 in
    let m = mark_le data_stalled stalled in
    let w = content_with flit l x in
    let t = told (content g) y acks stalled false small ha (omega (arith, s.below)) in
    let run : content g / 2 ^ 0 % 2 ^ 4 ≡ y / 2 ^ 0 % 2 ^ 4 = omega (arith, t.low) in
    record {
      size = s.size;
      are_bytes = s.are_bytes;
      run_read = λ k. record { 0 = run k };
      acks_read = t.acks;
      stalled_read = t.stalled;
      short_read = t.short;
      bare = ap₂ (λ (f : List ℕ) (c : ℕ). f ++ bytes 8 c) (s.front ∙ with_front flit l x) t.low ∙ whole flit l h;
    }

-- the control flit that closes a sealed unit
pub control_sealed : (d flit : List ℕ) (acks : ℕ) (stalled : Bool) → AllBytes d → length flit ≡ 64 → AllBytes flit → acceptable flit ≡ true → acks ≤ 31
    → ControlRead flit acks stalled (drop (length d) (sealed (d ++ control_told flit acks stalled)))
control_sealed d flit acks stalled hd l h e ha =
    let f = control_told flit acks stalled in
    control_read flit acks stalled (drop (length d) (sealed (d ++ f))) l h e ha
    (sealed_last d f (append_bytes d f hd (control_told_bytes flit acks stalled l h)) (control_told_size flit acks stalled l))
