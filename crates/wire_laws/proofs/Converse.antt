-- What is taken is the bytes of a message that keeps to the layout.
use Rattle.std.specs.Prelude.{Result, Ok, Err}
use Prim.Native.Nat.{ℕ, zero, suc, ◌+◌, ◌*◌, ◌≤◌}
use mathlib.Core.Path.{◌≡◌, refl, ap, ap₂, sym, subst, ◌∙◌}
use mathlib.Core.Bool.{Bool, true, false, cond, not, false≢true, ◌&&◌}
use mathlib.Core.List.{List, ◌++◌}
use native.Mathlib.Omega.{arith}
use lib.ListN.{length, get_or, drop, length-drop, take-append-drop}
use lib.Seq.{take_all}
use lib.Dec.{leb, eqb}
use borrow.Author.Tests.{eqb-true, leb-true}
use Rattle.wire.specs.Bytes.{value_at, values, rises, rises_from, value_bytes}
use Rattle.wire.specs.Message.{SEND, ECHO, READY, EST, AUX, COMMIT, FINISH, last_kind, by_kind, besides, count_of, values_of, header_with, header_for, header_bytes, message_bytes, encode}
use Rattle.wire.specs.laws.Kinds.{last_high}
use Rattle.wire.specs.Reading.{within, length_right, header_of, broadcast_fields, vote_fields, commit_fields, fields_right, taken_if, read_values, read_checked, read_message}
use Rattle.wire.specs.declared.Header.{Header}
use Rattle.wire.specs.declared.Message.{Message}
use Rattle.wire.specs.declared.Message.TheVariants.{Send, Echo, Ready, Est, Aux, Commit, Finish}
use Rattle.quorum.specs.laws.Bools.{and_left, and_right}
use Rattle.wire_laws.specs.Proper.{Layout}
use Rattle.wire_laws.proofs.laws.Forms.{Form}
use Rattle.wire_laws.specs.RoundTrip.{OnlyEncodings}
use Rattle.wire_laws.proofs.Parts.{length_values, values_fitting, bytes_values, bytes_header, all_drop}
use Rattle.settings.specs.declared.refusal.Refusal.{Refusal}

-- where a test stands before a refusal and the message was taken, it was passed
pub passed : (t : Bool) (p : Result Message Refusal) (k : Refusal) (m : Message) → cond (not t) (Err k) p ≡ Ok m → (t ≡ true) × (p ≡ Ok m)
passed true p k m e = (refl, e)
passed false p k m e = absurd (let z : ◌≡◌ {A = ℕ} 0 1 = cc in omega arith)

same_taken : (a b : Message) → ◌≡◌ {A = Result Message Refusal} (Ok a) (Ok b) → a ≡ b
same_taken a b e = cc

-- the tests of a message that was taken
pub record Passed (w n session link : ℕ) (b : List ℕ) (m : Message) : Type 0 where
  pub long : 12 ≤ length b
  pub count : length b ≡ 12 + 8 * (header_of b).count
  pub version : (header_of b).version ≡ w
  pub kind_low : 1 ≤ (header_of b).kind
  pub kind_high : (header_of b).kind ≤ last_kind w
  pub same_session_lem : (header_of b).session ≡ session
  pub same_sender : (header_of b).sender ≡ link
  pub link_low : 1 ≤ link
  pub link_high : link ≤ n
  pub fields : fields_right n (header_of b) ≡ true
  pub message : read_values (header_of b) (drop 12 b) ≡ Ok m

within_low : (lo hi x : ℕ) → within lo hi x ≡ true → lo ≤ x
within_low lo hi x e = leb-true lo x (and_left (leb lo x) (leb x hi) e)

within_high : (lo hi x : ℕ) → within lo hi x ≡ true → x ≤ hi
within_high lo hi x e = leb-true x hi (and_right (leb lo x) (leb x hi) e)

pub taken_passed : (w n session link : ℕ) (b : List ℕ) (m : Message) → read_message w n session link b ≡ Ok m → Passed w n session link b m
unfolding read_message read_checked length_right header_of
taken_passed w n session link b m e =
    let l = passed _ _ _ m e in
    let k = passed _ _ _ m l.1 in
    let t = passed _ _ _ m k.1 in
    let s = passed _ _ _ m t.1 in
    let f = passed _ _ _ m s.1 in
    record {
      long = leb-true 12 (length b) (and_left _ _ l.0);
      count = eqb-true (length b) (12 + 8 * get_or b 5 0) (and_right (leb 12 (length b)) _ l.0);
      version = eqb-true _ _ (and_left _ _ k.0);
      kind_low = within_low 1 (last_kind w) _ (and_right (eqb (get_or b 0 0) w) _ k.0);
      kind_high = within_high 1 (last_kind w) _ (and_right (eqb (get_or b 0 0) w) _ k.0);
      same_session_lem = eqb-true _ _ t.0;
      same_sender = eqb-true _ _ (and_left _ _ s.0);
      link_low = within_low 1 n link (and_right (eqb (get_or b 2 0) link) _ s.0);
      link_high = within_high 1 n link (and_right (eqb (get_or b 2 0) link) _ s.0);
      fields = f.0;
      message = f.1;
    }

header_is : (h : Header) (version kind sender instance round count session : ℕ) → h.version ≡ version → h.kind ≡ kind → h.sender ≡ sender → h.instance ≡ instance →
    h.round ≡ round → h.count ≡ count → h.reserved ≡ 0 → h.session ≡ session → h ≡ header_with version kind sender instance round count session
header_is h version kind sender instance round count session v k s i r c z t =
    λ j. record {
      version = v j;
      kind = k j;
      sender = s j;
      instance = i j;
      round = r j;
      count = c j;
      reserved = z j;
      session = t j;
    }

-- one of seven by the kind, where the kind is known
module _ {A : Type 0} (k : ℕ) (a b c d e f g : A) where
  at_send : k ≡ SEND → by_kind k a b c d e f g ≡ a
  unfolding by_kind
  at_send p = rw p

  at_echo : k ≡ ECHO → by_kind k a b c d e f g ≡ b
  unfolding by_kind
  at_echo p = rw p

  at_ready : k ≡ READY → by_kind k a b c d e f g ≡ c
  unfolding by_kind
  at_ready p = rw p

  at_est : k ≡ EST → by_kind k a b c d e f g ≡ d
  unfolding by_kind
  at_est p = rw p

  at_aux : k ≡ AUX → by_kind k a b c d e f g ≡ e
  unfolding by_kind
  at_aux p = rw p

  at_commit : k ≡ COMMIT → by_kind k a b c d e f g ≡ f
  unfolding by_kind
  at_commit p = rw p

  at_finish : k ≡ FINISH → by_kind k a b c d e f g ≡ g
  unfolding by_kind
  at_finish p = rw p

-- what the fields of each kind say
three : (a b c : Bool) → (a && b && c) ≡ true → (a ≡ true) × (b ≡ true) × (c ≡ true)
three a b c e = (and_left a b (and_left (a && b) c e), and_right a b (and_left (a && b) c e), and_right (a && b) c e)

guarded : (t x : Bool) → cond t x false ≡ true → (t ≡ true) × (x ≡ true)
guarded true x e = (refl, e)
guarded false x e = absurd (false≢true e)

module _ (n : ℕ) (h : Header) where
  reserved_zero : fields_right n h ≡ true → h.reserved ≡ 0
  unfolding fields_right
  reserved_zero e = eqb-true h.reserved 0 (guarded _ _ e).0

  kind_fields : fields_right n h ≡ true →
      by_kind h.kind
      (broadcast_fields n h && eqb h.instance h.sender)
      (broadcast_fields n h)
      (broadcast_fields n h)
      (vote_fields n h)
      (vote_fields n h)
      (commit_fields n h)
      (broadcast_fields n h)
      ≡ true
  unfolding fields_right
  kind_fields e = (guarded (eqb h.reserved 0) _ e).1

  broadcast_says : broadcast_fields n h ≡ true → (1 ≤ h.instance) × (h.instance ≤ n) × (h.round ≡ 0) × (h.count ≡ 1)
  broadcast_says e =
      let t = three (within 1 n h.instance) (eqb h.round 0) (eqb h.count 1) e in
      (within_low 1 n _ t.0, within_high 1 n _ t.0, eqb-true _ _ t.1, eqb-true _ _ t.2)

  vote_says : vote_fields n h ≡ true → (1 ≤ h.instance) × (h.instance ≤ n) × (1 ≤ h.round) × (h.round ≤ 32) × (h.count ≡ 1)
  vote_says e =
      let t = three (within 1 n h.instance) (within 1 32 h.round) (eqb h.count 1) e in
      (within_low 1 n _ t.0, within_high 1 n _ t.0, within_low 1 32 _ t.1, within_high 1 32 _ t.1, eqb-true _ _ t.2)

  commit_says : commit_fields n h ≡ true → (h.instance ≡ 0) × (h.round ≡ 0) × (1 ≤ h.count) × (h.count ≤ n)
  commit_says e =
      let t = three (eqb h.instance 0) (eqb h.round 0) (within 1 n h.count) e in
      (eqb-true _ _ t.0, eqb-true _ _ t.1, within_low 1 n _ t.2, within_high 1 n _ t.2)

module _ (w n session link : ℕ) (b : List ℕ) (m : Message) (p : Passed w n session link b m) where
  -- b has the form of w, which m turns out to be
  formed : (u : Message) → u ≡ m → header_of b ≡ header_for u w link session → Layout n link u → values_of u (values (count_of u) (drop 12 b)) ≡ values (count_of u) (drop 12 b) →
      rises (values (count_of u) (drop 12 b)) ≡ true → Form w n session link b m
  unfolding header_for
  formed u e header layout held rising =
      let c : (header_of b).count ≡ count_of u = ap (λ (x : Header). x.count) header in
      subst (λ (x : Message). Form w n session link b x) e
      (record {
        link_low = p.link_low;
        link_high = p.link_high;
        size = p.count ∙ ap (λ (k : ℕ). 12 + 8 * k) c;
        header = header;
        kind = omega (arith, p.kind_high, ap (λ (x : Header). x.kind) header);
        layout = layout;
        held = held;
        rising = rising;
      })

  -- a header of a kind with one value
  one_header : (kind : ℕ) → (header_of b).kind ≡ kind → (header_of b).count ≡ 1 → (round : ℕ) → (header_of b).round ≡ round →
      header_of b ≡ header_with w kind link (header_of b).instance round 1 session
  one_header kind k c round r =
      header_is (header_of b) w kind link (header_of b).instance round 1 session
      p.version k p.same_sender refl r c (reserved_zero n (header_of b) p.fields) p.same_session_lem

  send : (header_of b).kind ≡ SEND → Form w n session link b m
  unfolding read_values header_for values rises rises_from
  send k =
      let f = sym (at_send (header_of b).kind _ _ _ _ _ _ _ k) ∙ kind_fields n (header_of b) p.fields in
      let g = broadcast_says n (header_of b) (and_left (broadcast_fields n (header_of b)) _ f) in
      let i = eqb-true (header_of b).instance (header_of b).sender (and_right (broadcast_fields n (header_of b)) _ f) in
      formed (Send (header_of b).instance (value_at (drop 12 b) 1))
      (same_taken _ _ (sym (at_send (header_of b).kind _ _ _ _ _ _ _ k) ∙ p.message))
      (one_header SEND k g.3 0 g.2) (omega arith) refl refl

  echo : (header_of b).kind ≡ ECHO → Form w n session link b m
  unfolding read_values header_for values rises rises_from
  echo k =
      let g = broadcast_says n (header_of b) (sym (at_echo (header_of b).kind _ _ _ _ _ _ _ k) ∙ kind_fields n (header_of b) p.fields) in
      formed (Echo (header_of b).instance (value_at (drop 12 b) 1))
      (same_taken _ _ (sym (at_echo (header_of b).kind _ _ _ _ _ _ _ k) ∙ p.message))
      (one_header ECHO k g.3 0 g.2) (g.0, g.1) refl refl

  ready : (header_of b).kind ≡ READY → Form w n session link b m
  unfolding read_values header_for values rises rises_from
  ready k =
      let g = broadcast_says n (header_of b) (sym (at_ready (header_of b).kind _ _ _ _ _ _ _ k) ∙ kind_fields n (header_of b) p.fields) in
      formed (Ready (header_of b).instance (value_at (drop 12 b) 1))
      (same_taken _ _ (sym (at_ready (header_of b).kind _ _ _ _ _ _ _ k) ∙ p.message))
      (one_header READY k g.3 0 g.2) (g.0, g.1) refl refl

  est : (header_of b).kind ≡ EST → Form w n session link b m
  unfolding read_values taken_if header_for values rises rises_from
  est k =
      let g = vote_says n (header_of b) (sym (at_est (header_of b).kind _ _ _ _ _ _ _ k) ∙ kind_fields n (header_of b) p.fields) in
      let t = passed (leb (value_at (drop 12 b) 1) 1) _ _ m (sym (at_est (header_of b).kind _ _ _ _ _ _ _ k) ∙ p.message) in
      formed (Est (header_of b).instance (header_of b).round (value_at (drop 12 b) 1)) (same_taken _ _ t.1)
      (one_header EST k g.4 (header_of b).round refl) (g.0, g.1, g.2, g.3, leb-true _ _ t.0) refl refl

  aux : (header_of b).kind ≡ AUX → Form w n session link b m
  unfolding read_values taken_if header_for values rises rises_from
  aux k =
      let g = vote_says n (header_of b) (sym (at_aux (header_of b).kind _ _ _ _ _ _ _ k) ∙ kind_fields n (header_of b) p.fields) in
      let t = passed (leb (value_at (drop 12 b) 1) 1) _ _ m (sym (at_aux (header_of b).kind _ _ _ _ _ _ _ k) ∙ p.message) in
      formed (Aux (header_of b).instance (header_of b).round (value_at (drop 12 b) 1)) (same_taken _ _ t.1)
      (one_header AUX k g.4 (header_of b).round refl) (g.0, g.1, g.2, g.3, leb-true _ _ t.0) refl refl

  commit : (header_of b).kind ≡ COMMIT → Form w n session link b m
  unfolding read_values taken_if header_for
  commit k =
      let count : ℕ = (header_of b).count in
      let v : List ℕ = drop 12 b in
      let g = commit_says n (header_of b) (sym (at_commit (header_of b).kind _ _ _ _ _ _ _ k) ∙ kind_fields n (header_of b) p.fields) in
      let t = passed (rises (values count v)) _ _ m (sym (at_commit (header_of b).kind _ _ _ _ _ _ _ k) ∙ p.message) in
      let l : length (values count v) ≡ count = length_values count v in
      formed (Commit count) (same_taken _ _ t.1)
      (header_is (header_of b) w COMMIT link 0 0 count session
      p.version k p.same_sender g.0 g.1 refl (reserved_zero n (header_of b) p.fields) p.same_session_lem)
      (g.2, g.3) (take_all count (values count v) (omega arith)) t.0

  finish : (header_of b).kind ≡ FINISH → Form w n session link b m
  unfolding read_values taken_if header_for values rises rises_from
  finish k =
      let g = broadcast_says n (header_of b) (sym (at_finish (header_of b).kind _ _ _ _ _ _ _ k) ∙ kind_fields n (header_of b) p.fields) in
      let t = passed (leb (value_at (drop 12 b) 1) 1) _ _ m (sym (at_finish (header_of b).kind _ _ _ _ _ _ _ k) ∙ p.message) in
      formed (Finish (header_of b).instance (value_at (drop 12 b) 1)) (same_taken _ _ t.1)
      (one_header FINISH k g.3 0 g.2) (g.0, g.1, leb-true _ _ t.0) refl refl

each_kind : (P : Type 0) (k : ℕ) → 1 ≤ k → k ≤ 7 → (k ≡ SEND → P) → (k ≡ ECHO → P) → (k ≡ READY → P) → (k ≡ EST → P) → (k ≡ AUX → P) → (k ≡ COMMIT → P) → (k ≡ FINISH → P) → P
each_kind P zero lo hi a b c d e f g = absurd (omega arith)
each_kind P (suc zero) lo hi a b c d e f g = a refl
each_kind P (suc (suc zero)) lo hi a b c d e f g = b refl
each_kind P (suc (suc (suc zero))) lo hi a b c d e f g = c refl
each_kind P (suc (suc (suc (suc zero)))) lo hi a b c d e f g = d refl
each_kind P (suc (suc (suc (suc (suc zero))))) lo hi a b c d e f g = e refl
each_kind P (suc (suc (suc (suc (suc (suc zero)))))) lo hi a b c d e f g = f refl
each_kind P (suc (suc (suc (suc (suc (suc (suc zero))))))) lo hi a b c d e f g = g refl
each_kind P (suc (suc (suc (suc (suc (suc (suc (suc k)))))))) lo hi a b c d e f g = absurd (omega arith)

pub taken_form : (w n session link : ℕ) (b : List ℕ) (m : Message) → read_message w n session link b ≡ Ok m → Form w n session link b m
taken_form w n session link b m e =
    let p : Passed w n session link b m = taken_passed w n session link b m e in
    each_kind (Form w n session link b m) (header_of b).kind p.kind_low (omega (arith, p.kind_high, last_high w))
    (send w n session link b m p)
    (echo w n session link b m p)
    (ready w n session link b m p)
    (est w n session link b m p)
    (aux w n session link b m p)
    (commit w n session link b m p)
    (finish w n session link b m p)

besides_count : (m : Message) → besides m ≤ count_of m
besides_count (Send i v) = omega arith
besides_count (Echo i v) = omega arith
besides_count (Ready i v) = omega arith
besides_count (Est i r v) = omega arith
besides_count (Aux i r v) = omega arith
besides_count (Commit k) = omega arith
besides_count (Finish i v) = omega arith

pub only_encodings : OnlyEncodings
unfolding encode message_bytes
only_encodings w n session link b m all e =
    let f : Form w n session link b m = taken_form w n session link b m e in
    let v : List ℕ = drop 12 b in
    let l : length v ≡ 8 * count_of m = simp length-drop (omega arith) in
    record {
      link_low = f.link_low;
      link_high = f.link_high;
      bytes =
          sym (take-append-drop 12 b)
          ∙ ap₂ (λ (x y : List ℕ). x ++ y)
          (sym (bytes_header b all (omega arith)) ∙ ap header_bytes f.header)
          (sym (bytes_values (count_of m) v (all_drop b 12 all) l) ∙ ap value_bytes (sym f.held));
      proper = record {
        kind = f.kind;
        layout = f.layout;
        held = omega (arith, besides_count m, length_values (count_of m) v);
        fits = rw f.held (values_fitting (count_of m) v (all_drop b 12 all));
        rising = rw f.held f.rising;
      };
    }
