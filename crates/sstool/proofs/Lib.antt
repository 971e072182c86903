mod Firsts
mod Printed
