-- The two kinds of entries that a store has, filters and periodics, in their places. Assumes nothing.
use Prim.Native.Nat.{ℕ, zero, suc}
use mathlib.Core.Path.{◌≡◌, refl}
use mathlib.Core.Bool.{Bool}
use mathlib.Core.Option.{Option, none}
use mathlib.Core.List.{map}
use lib.Dec.{T}
use lib.ListN.{replicate}
use Rattle.codec.specs.Plain.{all, zeros}
use Rattle.codec.specs.Word.{word}
use Rattle.codec.specs.Code.{byte, word32, both, via, such, mark, many, vacant, beside, each_via}
use Rattle.codec.proofs.Tests.{join}
use Rattle.machine.specs.Filter.{none_yet}
use Rattle.machine.specs.Channel.{filter_in, periodic_in, starts_anew}
use Rattle.setups.proofs.Parts.{filter_there, periodic_there}
use Rattle.layout.specs.Record.{row, body, rec36, out_cell}
use Rattle.layout.specs.Sizes.{filters_size, periodics_size}
use Rattle.layout.specs.Memory.{filter_columns, filters, periodic_columns, periodics}
use Rattle.layout.proofs.Memory.{filters_lawful, periodics_lawful}
use Rattle.layout.proofs.Sizes.{filters_size_law, periodics_size_law}
use Rattle.layout.proofs.Held.{filter_place, filters_rows, no_filter, periodic_place, periodics_rows, no_periodic}
use Rattle.layout.proofs.Saved.{filter_place_law, periodic_place_law}
use Rattle.store_filling.proofs.Walk.{Kept}

all_empty : {B : Type 0} (q : Option B → Bool) → T (q none) → (n : ℕ) → T (all q (replicate n none))
all_empty q t zero = tt
all_empty q t (suc n) = join (q none) (all q (replicate n none)) t (all_empty q t n)

pub no_filters : (k : ℕ) → (filters k).put (map (λ x. x) none_yet) ≡ zeros filters_size
unfolding none_yet filters filter_columns row mark via such both many beside each_via byte
no_filters k = refl

pub no_periodics : (k : ℕ) → (periodics k).put (map starts_anew none_yet) ≡ zeros periodics_size
unfolding none_yet starts_anew periodics periodic_columns out_cell rec36 body row mark via such both many vacant beside each_via word32 byte word
no_periodics k = refl

empty_filters : (k : ℕ) → T ((filters k).ok (map (λ x. x) none_yet))
unfolding none_yet
empty_filters k = (filters_rows k).make _ refl (all_empty (filter_place k) (no_filter k) 10)

empty_periodics : (k : ℕ) → T ((periodics k).ok (map starts_anew none_yet))
unfolding none_yet starts_anew
empty_periodics k = (periodics_rows k).make _ refl (all_empty (periodic_place k) (no_periodic k) 10)

pub filters_kept : Kept filter_in (λ x. x) filters filters_size
filters_kept =
    record {
      sized = filters_size_law;
      lawful = filters_lawful;
      place = filter_place;
      rows = filters_rows;
      empty = empty_filters;
      none_is = no_filters;
      fits = λ s b k at f n e. filter_place_law k f (filter_there s b k at f n e).good;
    }

pub periodics_kept : Kept periodic_in starts_anew periodics periodics_size
periodics_kept =
    record {
      sized = periodics_size_law;
      lawful = periodics_lawful;
      place = periodic_place;
      rows = periodics_rows;
      empty = empty_periodics;
      none_is = no_periodics;
      fits = λ s b k at p n e. periodic_place_law k p (periodic_there s b k at p n e).good;
    }
