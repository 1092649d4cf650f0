-- The memory of a drill: the words of its sessions, and the bytes of the messages sent.
use Rattle.std.specs.Prelude.{ℕ, ◌+◌, ◌*◌, ◌-◌, cond, List, [], ◌++◌, length, get_or, take, drop, leb}

-- the k elements of l from place a; none where l has fewer
unfoldable pub part : List ℕ → ℕ → ℕ → List ℕ
part l a k = cond (leb (a + k) (length l)) (take k (drop a l)) []

-- l with new in the place of those elements; l itself where it has fewer
unfoldable pub with_part : List ℕ → ℕ → ℕ → List ℕ → List ℕ
with_part l a k new = cond (leb (a + k) (length l)) (take a l ++ (new ++ drop (a + k) l)) l

-- a state has 2,048 words: that of session p follows those of the sessions below (PROTOCOL 9.1)
abbrev pub state_at : ℕ → ℕ
state_at p = 2048 * (p - 1)

unfoldable pub state_of : List ℕ → ℕ → List ℕ
state_of w p = part w (state_at p) 2048

unfoldable pub with_state : List ℕ → ℕ → List ℕ → List ℕ
with_state w p s = with_part w (state_at p) 2048 s

-- sent message k: 44 bytes are the longest of a drill, 12 + 8·4
abbrev pub place_at : ℕ → ℕ
place_at k = 44 * (k - 1)

-- the 140 bytes that a turn is lent once so many messages were sent: its message stands at the front of them, which is its place
unfoldable pub room_for : List ℕ → ℕ → List ℕ
room_for m sent = part m (44 * sent) 140

unfoldable pub with_room : List ℕ → ℕ → List ℕ → List ℕ
with_room m sent b = with_part m (44 * sent) 140 b

unfoldable pub byte_at : List ℕ → ℕ → ℕ
byte_at m k = get_or m k 0

-- twelve bytes, and eight more for each value; byte 5 says how many (PROTOCOL 2.14)
unfoldable pub message_at : List ℕ → ℕ → List ℕ
message_at m k = part m (place_at k) (12 + 8 * byte_at m (place_at k + 5))

-- the sender of a message stands in byte 2 (PROTOCOL 2.9)
unfoldable pub sender_at : List ℕ → ℕ → ℕ
sender_at m k = byte_at m (place_at k + 2)
