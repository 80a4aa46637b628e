-- What a window drop means, as an operator.
use Rattle.std.specs.Prelude.{◌≡◌, []}
use Rattle.sq_oper.specs.Laws.{Meaning}
use Rattle.sq_oper.specs.Order.{unmarked}
use Rattle.sq_oper.specs.Streams.{port_fits}
use Rattle.sq_windrop.specs.declared.drop.WinDropBox.{WinDropBox}
use Rattle.sq_windrop.specs.Drops.{IsDropping, drop_rest, drop_decides, drop_reads, none_lost}

abbrev pub drop_meaning : WinDropBox → Meaning
drop_meaning s =
    record {
      valid = IsDropping s.with;
      running = s.tally.running;
      taken = s.tally.taken;
      place = s.tally.place;
      takes_marks = unmarked;
      fits = port_fits;
      reads = drop_reads s.with;
      rest = λ table future q. drop_rest s.with table s.batches future q;
      decides = λ table future. drop_decides s.with table s.batches future;
      may_hold = λ time things. things ≡ [];
      lost = none_lost;
    }
