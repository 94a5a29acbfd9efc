-- What a store keeps: the data of the slots, and the bytes of the texts.
use Rattle.std.specs.Prelude.{◌+◌, ◌-◌, ℕ, Bool, false, nat_eq, List, [], ◌∷◌, ◌++◌, length, take, Option, Some, None}
use Rattle.std.specs.List.{flat_map}
use Rattle.sf_base.specs.Data.{Datum, Number, Bytes, Real, Assigned}

-- the text under way, and the slot that it is for
pub record Opened : Type 0 where
  pub slot : ℕ
  pub text : List ℕ

-- The slots that were given something, in the order in which they were; the closed texts, joined in the order of their
-- closing; the opened text, if there is one; and how many bytes can be pushed for sure.
pub record Kept : Type 0 where
  pub values : List Assigned
  pub closed : List ℕ
  pub opened : Option Opened
  pub room : ℕ

abbrev pub text_of : Option Opened → List ℕ
text_of None = []
text_of (Some o) = o.text

-- all bytes that the store holds: the closed texts, then the opened one
abbrev pub buffer_of : Kept → List ℕ
buffer_of s = s.closed ++ text_of s.opened

-- whether the opened text is for this slot
abbrev pub is_opened : ℕ → Option Opened → Bool
is_opened slot None = false
is_opened slot (Some o) = nat_eq slot o.slot

-- ---- what the calls of a store do

abbrev pub assigned : ℕ → Datum → Assigned
assigned slot datum = record { slot = slot; datum = datum }

abbrev pub nothing_kept : ℕ → Kept
nothing_kept room = record { values = []; closed = []; opened = None; room = room }

abbrev pub with_value : ℕ → Datum → Kept → Kept
with_value slot datum s = record s { values = s.values ++ assigned slot datum ∷ [] }

abbrev pub with_opened : ℕ → Kept → Kept
with_opened slot s = record s { opened = Some (record { slot = slot; text = [] }) }

-- the opened text with more bytes
abbrev pub longer : List ℕ → Option Opened → Option Opened
longer bytes None = None
longer bytes (Some o) = Some (record { slot = o.slot; text = o.text ++ bytes })

-- with these bytes after those of the opened text, and so much room
abbrev pub with_bytes : List ℕ → ℕ → Kept → Kept
with_bytes bytes room s = record s { opened = longer bytes s.opened; room = room }

-- the data with the opened text
abbrev pub values_closed : List Assigned → Option Opened → List Assigned
values_closed values None = values
values_closed values (Some o) = values ++ assigned o.slot (Bytes o.text) ∷ []

-- the opened text is what its slot was given
abbrev pub with_closed : Kept → Kept
with_closed s = record { values = values_closed s.values s.opened; closed = s.closed ++ text_of s.opened; opened = None; room = s.room }

-- the slot was given this text, and so much room is left
abbrev pub with_text : ℕ → List ℕ → ℕ → Kept → Kept
with_text slot bytes room s = with_closed (with_bytes bytes room (with_opened slot s))

-- the opened text is gone, and its bytes are free
abbrev pub with_dropped : Kept → Kept
with_dropped s = record s { opened = None; room = s.room + length (text_of s.opened) }

-- the first n bytes of the opened text
abbrev pub shorter : ℕ → Option Opened → Option Opened
shorter n None = None
shorter n (Some o) = Some (record { slot = o.slot; text = take n o.text })

-- the opened text has its first n bytes, and the others are free
abbrev pub with_cut : ℕ → Kept → Kept
with_cut n s = record s { opened = shorter n s.opened; room = s.room + (length (text_of s.opened) - n) }

-- ---- texts

abbrev pub text_in : Datum → List ℕ
text_in (Number kind n) = []
text_in (Bytes text) = text
text_in (Real r) = []

-- the texts among the data, joined
abbrev pub texts_in : List Assigned → List ℕ
texts_in values = flat_map (λ a. text_in a.datum) values
