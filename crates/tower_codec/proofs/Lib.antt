mod States
