-- A conversation's place that hears a frame. Assumes nothing.
use Rattle.std.specs.Prelude.{ℕ, ◌≡◌, false, List, length, get_or, T}
use Rattle.std.proofs.Math.Option.{Option}
use Rattle.codec.specs.Code.{Code, slot}
use Rattle.iso.specs.Iso.{Talk, turned_slot, news_at, listening}
use Rattle.iso_layout.specs.Sizes.{talk_size}
use Rattle.iso_layout.specs.Region.{talk_cell}
use Rattle.talk_head.specs.declared.Head.{Head}
use Rattle.talk_telling.specs.declared.Told.{Told}
use Rattle.talk_telling.specs.Telling.{told}

-- the head of a transfer without payload
abbrev pub bare_head : ℕ → Head
bare_head kind = record { kind = kind; n = 0; time = 0; left = 0; gap = 0; waits = false }

-- the place of a conversation, on a connection of some flags
pub record Talking (t : List ℕ) : Type 0 where
  pub flags : ℕ
  pub long : length t ≡ talk_size
  pub valid : T ((slot (talk_cell flags)).valid t)
  pub taken : get_or t 0 0 ≡ 0 → ⊥

-- the place t becomes u, and the records of the frame b at the clock are those told, in the buffer s
pub record Hears (clock : ℕ) (b : List ℕ) (place : Code (Option Talk)) (t u : List ℕ) (r : Told) (s : List ℕ) : Type 0 where
  pub turns : u ≡ place.put (turned_slot (λ c. (listening clock c b).transfer) (place.get t))
  pub tells : news_at (λ c. (listening clock c b).records) (place.get t) ≡ news_at (λ c. told r clock c s) (place.get t)
