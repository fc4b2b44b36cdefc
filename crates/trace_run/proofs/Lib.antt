mod Printed
mod Lined
mod Captured
