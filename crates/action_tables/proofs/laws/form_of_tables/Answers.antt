use Rattle.action_tables.proofs.Forms.{op_reads, op_writes, table_reads, table_writes}
use Rattle.action_tables.proofs.laws.form_of_tables.Goals as goal

pub returns-clause-table : goal.returns-clause-table
returns-clause-table c = λ d w. (table_writes d w, table_reads d w)

pub returns-clause-op : goal.returns-clause-op
returns-clause-op c = λ d o. (op_writes d o, op_reads d o)

pub returns-clause-keys : goal.returns-clause-keys
returns-clause-keys c = λ text t states ops s. (s.reads.value, s.reads.json, (table_writes s.reads.value s.written s.reads.form).keys)
