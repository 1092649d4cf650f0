-- Reading what was written gives the message and its values back.
use Rattle.std.specs.Prelude.{Ok}
use Prim.Native.Nat.{ℕ, ◌+◌, ◌*◌, ◌^◌, ◌<◌, ◌≤◌}
use mathlib.Core.Path.{◌≡◌, refl, ap, sym, ◌∙◌}
use mathlib.Core.Bool.{true}
use mathlib.Core.List.{List, [], ◌∷◌}
use native.Mathlib.Omega.{arith}
use native.Mathlib.Nat.{mod-eq_of_lt}
use lib.ListN.{length, get_or, drop}
use borrow.Author.Tests.{eq-eqb, le-leb}
use Rattle.wire.specs.Bytes.{be2, be4, value_at, values, bytes2, bytes4, value_bytes}
use Rattle.wire.specs.Message.{by_kind, last_kind, kind_of, instance_of, round_of, count_of, length_of, besides, values_of, header_for, front_bytes, header_bytes, message_bytes, encode}
use Rattle.wire.specs.Reading.{kind_known, length_right, header_of, fields_right, taken_if, read_values, read_checked, read_message}
use Rattle.wire.specs.declared.Message.{Message}
use Rattle.wire.specs.declared.Message.TheVariants.{Send, Echo, Ready, Est, Aux, Commit, Finish}
use Rattle.wire.proofs.Laws.{count_values, length_encode, value_of_values}
use Rattle.wire_laws.specs.Proper.{Layout, Proper}
use Rattle.wire_laws.specs.RoundTrip.{RoundTrip}
use Rattle.wire_laws.proofs.Digits.{digits4, value_bytes8, values_value_bytes}

-- the bytes of a message: its header, its values, its length
module _ (m : Message) (w s t : ℕ) (xs : List ℕ) where
  header_back : t < 2 ^ 32 → header_of (encode m w s t xs) ≡ header_for m w s t
  unfolding header_of encode message_bytes header_for header_bytes front_bytes bytes4 bytes2 be4 be2
  header_back h =
      λ j. record {
        version = w;
        kind = kind_of m;
        sender = s;
        instance = instance_of m;
        round = round_of m;
        count = count_of m;
        reserved = 0;
        session = (digits4 t ∙ mod-eq_of_lt h) j;
      }

  rest_back : drop 12 (encode m w s t xs) ≡ value_bytes (values_of m xs)
  unfolding encode message_bytes header_bytes front_bytes bytes4 bytes2
  rest_back = refl

  count_back : get_or (encode m w s t xs) 5 0 ≡ count_of m
  unfolding encode message_bytes header_for header_bytes front_bytes
  count_back = refl

  length_back : besides m ≤ length xs → length_right (encode m w s t xs) ≡ true
  unfolding length_right
  length_back b =
      let l : length (encode m w s t xs) ≡ length_of m = length_encode m w s t xs b in
      simp (count_back, le-leb 12 (length (encode m w s t xs)) (omega arith), eq-eqb (length (encode m w s t xs)) (12 + 8 * count_of m) l)

-- the kind is known, the fields are right
kind_low : (m : Message) → 1 ≤ kind_of m
kind_low (Send i v) = omega arith
kind_low (Echo i v) = omega arith
kind_low (Ready i v) = omega arith
kind_low (Est i r v) = omega arith
kind_low (Aux i r v) = omega arith
kind_low (Commit k) = omega arith
kind_low (Finish i v) = omega arith

known : (w : ℕ) (m : Message) → kind_of m ≤ last_kind w → kind_known w w (kind_of m) ≡ true
known w m h = simp (eq-eqb w w refl, le-leb 1 (kind_of m) (kind_low m), le-leb (kind_of m) (last_kind w) h)

fields : (w n s t : ℕ) (m : Message) → 1 ≤ s → s ≤ n → Layout n s m → fields_right n (header_for m w s t) ≡ true
unfolding fields_right header_for by_kind
fields w n s t (Send i v) a b p =
    let lo : 1 ≤ i = omega arith in
    let hi : i ≤ n = omega arith in
    simp (le-leb 1 i lo, le-leb i n hi, eq-eqb i s p)
fields w n s t (Echo i v) a b p = simp (le-leb 1 i p.0, le-leb i n p.1)
fields w n s t (Ready i v) a b p = simp (le-leb 1 i p.0, le-leb i n p.1)
fields w n s t (Est i r v) a b p = simp (le-leb 1 i p.0, le-leb i n p.1, le-leb 1 r p.2, le-leb r 32 p.3)
fields w n s t (Aux i r v) a b p = simp (le-leb 1 i p.0, le-leb i n p.1, le-leb 1 r p.2, le-leb r 32 p.3)
fields w n s t (Commit k) a b p = simp (le-leb 1 k p.0, le-leb k n p.1)
fields w n s t (Finish i v) a b p = simp (le-leb 1 i p.0, le-leb i n p.1)

-- the values are read back
one_back : (v : ℕ) → v < 2 ^ 64 → value_at (value_bytes (v ∷ [])) 1 ≡ v
unfolding value_bytes
one_back v h = value_bytes8 v [] h

values_back : (w n s : ℕ) (m : Message) (xs : List ℕ) → Proper w n s m xs → values (count_of m) (value_bytes (values_of m xs)) ≡ values_of m xs
values_back w n s m xs p =
    ap (λ (k : ℕ). values k (value_bytes (values_of m xs))) (sym (count_values m xs p.held)) ∙ values_value_bytes (values_of m xs) p.fits

message_back : (w n s t : ℕ) (m : Message) (xs : List ℕ) → Proper w n s m xs → read_values (header_for m w s t) (value_bytes (values_of m xs)) ≡ Ok m
unfolding read_values header_for by_kind taken_if
message_back w n s t (Send i v) xs p = rw (one_back v p.fits.0)
message_back w n s t (Echo i v) xs p = rw (one_back v p.fits.0)
message_back w n s t (Ready i v) xs p = rw (one_back v p.fits.0)
message_back w n s t (Est i r v) xs p = rw (one_back v p.fits.0, le-leb v 1 p.layout.4)
message_back w n s t (Aux i r v) xs p = rw (one_back v p.fits.0, le-leb v 1 p.layout.4)
message_back w n s t (Commit k) xs p = rw (values_back w n s (Commit k) xs p, p.rising)
message_back w n s t (Finish i v) xs p = rw (one_back v p.fits.0, le-leb v 1 p.layout.2)

-- a header whose fields are right is taken, with the bytes after it
checked : (w n s t : ℕ) (m : Message) (xs v : List ℕ) → 1 ≤ s → s ≤ n → Proper w n s m xs → read_checked w n t s (header_for m w s t) v ≡ read_values (header_for m w s t) v
unfolding read_checked header_for
checked w n s t m xs v lo hi p =
    let f : fields_right n (header_for m w s t) ≡ true = fields w n s t m lo hi p.layout in
    simp (known w m p.kind, eq-eqb t t refl, eq-eqb s s refl, le-leb 1 s lo, le-leb s n hi, f)

pub round_trip : RoundTrip
unfolding read_message
round_trip w n t s m xs ht lo hi p =
    record {
      message =
          rw (length_back m w s t xs p.held, header_back m w s t xs ht, rest_back m w s t xs)
          (checked w n s t m xs (value_bytes (values_of m xs)) lo hi p ∙ message_back w n s t m xs p);
      all_values_lem = rw (rest_back m w s t xs) (values_back w n s m xs p);
      each_value = λ k l.
          rw (rest_back m w s t xs)
          (sym (value_of_values (count_of m) (value_bytes (values_of m xs)) k l) ∙ ap (λ (l : List ℕ). get_or l k 0) (values_back w n s m xs p));
    }
