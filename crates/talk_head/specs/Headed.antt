-- The transfer that a head and a payload are, and both in the bytes of a conversation's place. Assumes nothing.
use Rattle.std.specs.Prelude.{◌≡◌, ℕ, ◌+◌, List, [], ◌∷◌, ◌++◌, get_or, take, drop, T, eqb, ltb, if◌then◌else◌}
use Rattle.codec.specs.Word.{word, word_at}
use Rattle.codec.specs.Code.{mark_of}
use Rattle.layout.specs.Sizes.{number_size}
use Rattle.iso.specs.Iso.{Transfer}
use Rattle.iso_layout.specs.Sizes.{count_in, time_in, left_in, gap_in, go_on_in, payload_in, transfer_in}
use Rattle.iso_layout.specs.Region.{Transferred, transferred, transfer_parts, transfer_on, transfer_fits, transfer_code, payload508}
use Rattle.talk_head.specs.declared.Head.{Head}

abbrev pub head_parts : Head → List ℕ → Transferred
head_parts h b = transferred h.kind h.n h.time h.left h.gap h.waits b

unfoldable pub headed : Head → List ℕ → Transfer
headed h b = transfer_on h.kind h.n h.time h.left h.gap h.waits b

-- a transfer is this head and this payload: what plays no part is zero
abbrev pub Tells : Head → List ℕ → Transfer → Type 0
Tells h b x = transfer_parts x ≡ head_parts h b

-- it can be held so: every number within its limits, and what plays no part is zero
abbrev pub Held : Head → List ℕ → Type 0
Held h b = T (transfer_fits (head_parts h b))

-- a transfer that is idle or refuses has no payload
unfoldable pub remains : Head → List ℕ → List ℕ
remains h b = if ltb h.kind 2 then [] else b

-- ---- in the bytes of a conversation's place

-- where the payload begins, and where its bytes do
abbrev pub payload_on : ℕ
payload_on = transfer_in + payload_in

abbrev pub bytes_on : ℕ
bytes_on = payload_on + number_size

unfoldable pub transfer_at : List ℕ → Transfer
transfer_at t = transfer_code.get (drop transfer_in t)

unfoldable pub payload_at : List ℕ → List ℕ
payload_at t = payload508.get (drop payload_on t)

unfoldable pub head_at : List ℕ → Head
head_at t =
    record {
      kind = get_or t transfer_in 0;
      n = word_at (transfer_in + count_in) t;
      time = word_at (transfer_in + time_in) t;
      left = word_at (transfer_in + left_in) t;
      gap = word_at (transfer_in + gap_in) t;
      waits = eqb 1 (get_or t (transfer_in + go_on_in) 0);
    }

unfoldable pub numbers : (n time left gap : ℕ) → List ℕ
numbers n time left gap = word n ++ word time ++ word left ++ word gap

unfoldable pub head_bytes : Head → List ℕ
head_bytes h = h.kind ∷ (numbers h.n h.time h.left h.gap ++ mark_of h.waits ∷ [])

-- the place with another head, with another payload; with both, where nothing remains of the payload of a transfer that has none
unfoldable pub with_head : Head → List ℕ → List ℕ
with_head h t = take transfer_in t ++ (head_bytes h ++ drop payload_on t)

unfoldable pub with_payload : List ℕ → List ℕ → List ℕ
with_payload b t = take payload_on t ++ payload508.put b

unfoldable pub settled : Head → List ℕ → List ℕ
settled h t = if ltb h.kind 2 then with_payload [] (with_head h t) else with_head h t
