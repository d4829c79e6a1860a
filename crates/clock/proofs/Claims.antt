-- specs/Claims.antt: split and join undo each other, and both are fair. Assumes nothing.
use native.Mathlib.Omega.{arith}
use Rattle.answers.proofs.Decide.{fair_answer}
use Rattle.clock.specs.Clock.{parts_of, number_of, split_causes, join_causes}
use Rattle.clock.specs.Claims.{RoundTrip, FairCalls}
use Rattle.clock.proofs.RoundTrip.{counters_range, number_range, split_accepts, join_accepts, join_undoes_split, split_undoes_join, split_ascends, join_ascends}

pub round_trip : RoundTrip
round_trip =
    record {
      join_undoes_split = λ fn h.
          record { frame = parts_of fn; split = split_accepts fn (omega arith); in_range = counters_range fn (omega arith); back = join_undoes_split fn (omega arith) };
      split_undoes_join = λ f h1 h2 h3.
          record {
            number = number_of f.t1 f.t2 f.t3;
            joined = join_accepts f.t1 f.t2 f.t3 h1 h2 h3;
            in_range = omega (arith, number_range f.t1 f.t2 f.t3 h1 h2 h3);
            there = split_undoes_join f.t1 f.t2 f.t3 h1 h2 h3;
          };
    }

pub fair_calls : FairCalls
fair_calls =
    record {
      split = λ fn. fair_answer (parts_of fn) (split_causes fn) (split_ascends fn);
      join = λ t1 t2 t3. fair_answer (number_of t1 t2 t3) (join_causes t1 t2 t3) (join_ascends t1 t2 t3);
    }
