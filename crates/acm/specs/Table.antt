-- A row of the code's table, and the record that it stands for.
use Rattle.acm.specs.declared.table.Format.{Format}
use Rattle.acm.specs.declared.table.Row.{Row}

abbrev pub record_of : Row → Format
record_of r =
    record {
      number = r.number;
      m = r.m;
      k = r.k;
      i = r.i;
      w = r.w;
      n = r.n;
      k1 = r.k1;
      k2 = r.k2;
      soft = r.soft;
      survivors = r.survivors;
      s = r.s;
      delta = r.delta;
    }
